-- What is written to a source or to its copy leaves the other.
use Rattle.std.proofs.Common.{◌≡◌, ◌≢◌, ◌<◌, ℕ, List, true, Some, refl, sym, ◌∙◌, arith}
use Rattle.std.proofs.lemmas.Bool.{cond_both}
use Rattle.std.specs.Prelude.{◌==◌, length}
use Rattle.op_frames.specs.Replay.{Request}
use Rattle.op_frames.specs.declared.operation.Op.{Op}
use Rattle.op_frames.specs.declared.operation.Op.TheVariants as ops
use Rattle.op_frames.specs.declared.reply.Attr.{Attr}
use Rattle.op_frames.specs.declared.reply.Reply.TheVariants as replies
use Rattle.plain_tree.specs.Below.{is_among, at_and_below}
use Rattle.plain_tree.specs.Calls.{tree_after_all}
use Rattle.plain_tree.specs.Files.{inode_of}
use Rattle.plain_tree.specs.Operations.{reply_to, tree_after}
use Rattle.plain_tree.specs.Tree.{Tree, made_tree, node_at, handle_of}
use Rattle.plain_tree.specs.WellFormed.{IsWellFormed}
use Rattle.tree_laws.specs.Copies.{number_of, node_written, IsCopied, AreApart}
use Rattle.tree_laws.proofs.Copy.Law.{CanBeCopied, node_below, can_be, copy_done}
use Rattle.tree_laws.proofs.File.Alone.{stays_alone}
use Rattle.tree_laws.proofs.Node.Kind.{one_some}
use Rattle.tree_laws.proofs.Node.Reading.{lookup_below_next, node_at-change_node_other}
use Rattle.tree_laws.proofs.Walk.Calls.{after_call}
use Rattle.tree_laws.proofs.WellFormed.{reached_well_formed}

-- every node but the one that is written to is as it was
leaves : (t : Tree) (pass now inode x : ℕ) (op : Op) → node_written t pass op ≡ Some inode → x ≢ inode → node_at (tree_after t pass op now) x ≡ node_at t x
leaves t pass now inode x (ops.Write handle offset text) names apart =
    let written : ℕ = inode_of (handle_of t pass handle) in
    after_call (λ after. node_at after x ≡ node_at t x) t pass now (ops.Write handle offset text) refl
    (λ passes. cond_both (length text == 0) t _ (λ after. node_at after x ≡ node_at t x) (λ none. refl)
    (λ some. node_at-change_node_other _ written x t (λ same. apart (same ∙ one_some (Some inode) written inode (sym names) refl))))
leaves t pass now inode x op names apart = (stays_alone t pass now inode op names).others x apart

-- what lies at or below the source has a number that was given before
below_next : (t : Tree) (source p : ℕ) (n : List ℕ) → CanBeCopied t source p n → (x : ℕ) → is_among (at_and_below t source) x ≡ true → x < t.next_inode
below_next t source p n can x among =
    let node = node_below t source p n can x among in
    lookup_below_next x 0 t.nodes t.next_inode node.0 can.ordered node.1

sides_differ : (t : Tree) (source p : ℕ) (n : List ℕ) → CanBeCopied t source p n → (x y : ℕ) → is_among (at_and_below t source) x ≡ true → x ≢ number_of t source y
sides_differ t source p n can x y among same = omega (arith, same, below_next t source p n can x among)

-- operations on one node of one side leave the other side
pub sides_apart : (t later : Tree) (source p : ℕ) (n : List ℕ) → CanBeCopied t source p n → AreApart source t later
sides_apart t later source p n can = record {
  copy_stays = λ pass now x y op first second names. leaves later pass now x (number_of t source y) op names (λ same. sides_differ t source p n can x y first (sym same));
  source_stays = λ pass now x y op first second names. leaves later pass now (number_of t source x) y op names (sides_differ t source p n can y x second);
}

-- ---- after any calls

-- both in every tree that calls lead to
pub reached_copy : (block_size time : ℕ) (calls : List Request) (pass now source p : ℕ) (n : List ℕ) (attr : Attr)
    → reply_to (tree_after_all (made_tree block_size time) calls) pass (ops.CopyTree source p n) now ≡ replies.Attr attr
    → IsCopied source p n now (tree_after_all (made_tree block_size time) calls) (tree_after (tree_after_all (made_tree block_size time) calls) pass (ops.CopyTree source p n) now)
    × ((later : Tree) → AreApart source (tree_after_all (made_tree block_size time) calls) later)
reached_copy block_size time calls pass now source p n attr replied =
    let t : Tree = tree_after_all (made_tree block_size time) calls in
    let well : IsWellFormed t = reached_well_formed block_size time calls in
    (copy_done t pass now source p n attr well.nodes well.names well.tree replied, λ later. sides_apart t later source p n (can_be t pass now source p n attr well.nodes well.names well.tree replied))
