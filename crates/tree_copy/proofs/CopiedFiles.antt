-- The files of a tree with a copy, and the blocks that they share with those that were there.
use Rattle.std.proofs.Common.{◌≡◌, ◌≤◌, ◌⊎◌, ℕ, List, true, Option, None, Some, refl, sym, ap, ◌∙◌, inl, inr, arith}
use Rattle.std.proofs.lemmas.Bool.{cases_lt}
use Rattle.std.specs.Prelude.{is_some, option_and_then}
use Rattle.plain_tree.specs.Below.{at_and_below, is_among}
use Rattle.plain_tree.specs.Files.{bytes_of, file_at}
use Rattle.plain_tree.specs.Numbers.{InOrder}
use Rattle.plain_tree.specs.Subtrees.{with_copy}
use Rattle.plain_tree.specs.Tree.{Node, Tree, named, node_at, touched}
use Rattle.s3_rows.specs.Tables.{Tables}
use Rattle.tree_laws.proofs.Copy.Nodes.{FromCopy, from_node, new_node, node_before, number_fits, number_of, place_of-one, with_copies}
use Rattle.tree_laws.proofs.File.Alone.{changes_found}
use Rattle.tree_laws.proofs.File.Unwritten.{bytes-copied, file_at-with_copy}
use Rattle.tree_laws.proofs.Node.Kind.{none_some}
use Rattle.tree_laws.proofs.Node.Reading.{node_at_none_next}
use Rattle.tree_rows.specs.Shapes.{Represents}
use Rattle.tree_rows.specs.Spots.{form_at}
use Rattle.byte_steps.specs.Shared.{HasFormsOf, SharesBlocks}
use Rattle.tree_copy.specs.CopiedBytes.{CopiesFiles}
use Rattle.tree_copy.specs.CopySteps.{IsCopyStep}
use Rattle.tree_copy.proofs.Visits.{row_of_node}

-- ---- bytes of nodes

-- the bytes of a node, if it is a file
abbrev file_in : Option Node → Option (List ℕ)
file_in found = option_and_then (λ node. bytes_of node.content) found

-- a file is a node
pub node_of_file : (found : Option Node) (bytes : List ℕ) → file_in found ≡ Some bytes → (node : Node) × (found ≡ Some node)
node_of_file None bytes is = absurd (cc is)
node_of_file (Some node) bytes is = (node, refl)

-- ---- the tree with a copy

module _ (t : Tree) (ordered : InOrder t) (source parent now : ℕ) (name : List ℕ) where
  abbrev order : List ℕ
  order = at_and_below t source

  abbrev more : Tree
  more = with_copies t order now

  -- what has the number of a copy is the copy
  copy_from : (x : ℕ) (node : Node) → is_among order x ≡ true → (node_at t (number_of t order x) ≡ Some node) ⊎ FromCopy t order now order (number_of t order x) node
      → (old : Node) × (node_at t x ≡ Some old)
  copy_from x node among (inl there) = absurd (none_some _ node (node_at_none_next t ordered (number_of t order x) (number_fits t order x)) there)
  copy_from x node among (inr from) =
      let one : x ≡ from.of = place_of-one order x from.of among (omega (arith, from.number)) in
      (from.original, ap (node_at t) one ∙ from.there)

  -- what is no node has no copy
  file_none : (x : ℕ) → is_among order x ≡ true → node_at t x ≡ None → (found : Option Node) → node_at more (number_of t order x) ≡ found → file_in found ≡ None
  file_none x among none None is = refl
  file_none x among none (Some node) is =
      let from = copy_from x node among (from_node t order now (number_of t order x) node is) in
      absurd (none_some (node_at t x) from.0 none from.1)

  file_copied : (x : ℕ) → is_among order x ≡ true → (found : Option Node) → node_at t x ≡ found → file_at more (number_of t order x) ≡ file_in found
  file_copied x among None none = file_none x among none (node_at more (number_of t order x)) refl
  file_copied x among (Some node) there = ap file_in (new_node t ordered order now x node among there) ∙ bytes-copied t.next_inode order node.content

  file_new : (x : ℕ) → t.next_inode ≤ x → (node : Node) → (node_at t x ≡ Some node) ⊎ FromCopy t order now order x node
      → (of : ℕ) × (is_among order of ≡ true) × (x ≡ number_of t order of)
  file_new x above node (inl there) = absurd (none_some _ node (node_at_none_next t ordered x above) there)
  file_new x above node (inr from) = (from.of, from.among, from.number)

  pub CopiesFiles-with_copy : CopiesFiles t source (with_copy source parent name now t)
  CopiesFiles-with_copy = record {
    size = (changes_found (λ node. touched now (record node { content = named name t.next_inode node.content })) parent more (node_at more parent) refl).block_size;
    old = λ x less. file_at-with_copy source parent name now t x ∙ ap file_in (node_before t source now x less);
    copied = λ x among. file_at-with_copy source parent name now t (number_of t order x) ∙ file_copied x among (node_at t x) refl;
    new = λ x bytes above is.
        let node = node_of_file (node_at more x) bytes (sym (file_at-with_copy source parent name now t x) ∙ is) in
        file_new x above node.0 (from_node t order now x node.0 node.1);
  }

-- ---- its rows

module _ (t after : Tables) (whole next : Tree) (source : ℕ) (same : Represents t whole) (copies : CopiesFiles whole source next) (step : IsCopyStep t after whole source next) where
  -- a file that was there keeps the forms of its places
  file_old : (x : ℕ) (bytes : List ℕ) → file_at whole x ≡ Some bytes → HasFormsOf t after whole x bytes
  file_old x bytes is =
      let node = node_of_file (node_at whole x) bytes is in
      let row = row_of_node t whole same x node.0 node.1 in
      record { of = x; same = is; forms = λ n. step.forms x n (ap is_some row.1) }

  -- and one that is new has those of the file that it is a copy of
  file_shared : (x : ℕ) (bytes : List ℕ) → whole.next_inode ≤ x → file_at next x ≡ Some bytes → HasFormsOf t after whole x bytes
  file_shared x bytes above is =
      let from = copies.new x bytes above is in
      record {
        of = from.0;
        same = sym (copies.copied from.0 from.1) ∙ ap (file_at next) (sym from.2) ∙ is;
        forms = λ n. ap (λ k. form_at after k n) from.2 ∙ step.copied from.0 n from.1;
      }

  pub SharesBlocks-copied : SharesBlocks t after whole next
  SharesBlocks-copied = record {
    size = copies.size;
    files = λ x bytes is.
        elim (cases_lt x whole.next_inode) [
          | inl less ↦ inl (file_old x bytes (sym (copies.old x less) ∙ is))
          | inr above ↦ inl (file_shared x bytes above is)
        ];
    rows = step.rows;
  }
