-- An entry that names a locked node, through every operation.
use Rattle.std.proofs.Common.{◌≡◌, ◌≢◌, ℕ, List, [], ◌∷◌, Bool, true, false, cond, Option, None, Some, refl, sym, ap, ◌∙◌, inl, inr, subst, arith}
use Rattle.std.proofs.lemmas.Bool.{cond_both}
use Rattle.std.specs.List.{filter}
use Rattle.std.specs.Prelude.{◌==◌, not, unwrap_or, option_and_then}
use Rattle.op_frames.specs.Replay.{Request}
use Rattle.op_frames.specs.declared.operation.Op.{Op}
use Rattle.op_frames.specs.declared.operation.Op.TheVariants as ops
use Rattle.op_frames.specs.declared.reply.Reply.TheVariants as replies
use Rattle.s3_base.specs.declared.node_kind.Kind.{Kind}
use Rattle.s3_base.specs.declared.node_kind.Kind.TheVariants as kinds
use Rattle.plain_tree.specs.Below.{is_at_or_below}
use Rattle.plain_tree.specs.Calls.{tree_after_all}
use Rattle.plain_tree.specs.Checks.{first_failure, lock_check, entry_check, empty_check}
use Rattle.plain_tree.specs.Entries.{entry_at, child_at, lives, settled, add_entry, drop_entry}
use Rattle.plain_tree.specs.Files.{inode_of}
use Rattle.plain_tree.specs.Numbers.{InOrder}
use Rattle.plain_tree.specs.Operations.{checks, reply_to, tree_after, new_file}
use Rattle.plain_tree.specs.Subtrees.{dropped, moved_entry, without_tree, without_pass}
use Rattle.s3_base.specs.Numbers.{root}
use Rattle.plain_tree.specs.Tree.{Node, Tree, node_at, handle_of, change_node, with_node, with_handle, without_handle, without_node, stamped}
use Rattle.plain_tree.proofs.Replies.{reply_at}
use Rattle.tree_laws.specs.LockedTrees.{Spares, AllSpare, IsAsBefore}
use Rattle.tree_laws.specs.Locks.{IsKept}
use Rattle.tree_laws.proofs.Lock.Node.{kept_after}
use Rattle.tree_laws.proofs.Lock.Refusal.{locked_fails}
use Rattle.tree_laws.proofs.Name.Order.{NamesInOrder-drop_entry}
use Rattle.tree_laws.proofs.Node.Kind.{kind_in, entry_in, none_some, folder_is, free_is, no_folder_is, empty_is}
use Rattle.tree_laws.proofs.Node.Order.{InOrder-change_node}
use Rattle.tree_laws.proofs.Node.Reading.{node_at_none_next, node_at-with_node_other}
use Rattle.tree_laws.proofs.Shape.Below.{below_shape}
use Rattle.tree_laws.proofs.Shape.Copy.{shape-with_copy}
use Rattle.tree_laws.proofs.Shape.Loss.{Unlinks, Sweeps}
use Rattle.tree_laws.proofs.Shape.Named.{dead_is}
use Rattle.tree_laws.proofs.Shape.Operations.{shape-edited, Sound-tree_after}
use Rattle.tree_laws.proofs.Shape.Steps.{Sound}
use Rattle.tree_laws.proofs.Shape.Subtree.{shape-with_lock, shape-without_pass, shape-without_tree}
use Rattle.tree_laws.proofs.Shape.Tree.{shape_of, shape-drop_entry, Links, shape-add_entry, shape-without_node}
use Rattle.tree_laws.proofs.Shape.Words.{IsUnnamed, IsPlace, not_there}
use Rattle.tree_laws.proofs.Walk.Calls.{after_call}
use Rattle.tree_laws.proofs.Walk.Edits.{Stamp, built}
use Rattle.tree_laws.proofs.Walk.Operations.{Effects, effects-effect}
use Rattle.tree_laws.proofs.Walk.Passed.{CanMove, CanUnlink, CanUnmake}

-- an entry that names a locked node
pub record Held (t : Tree) (p x : ℕ) (n : List ℕ) (node : Node) : Type 0 where
  pub sound : Sound t
  pub is : node_at t x ≡ Some node
  pub locked : node.locked ≡ true
  pub names : entry_at t p n ≡ Some x

-- a directory but the root is named
not_alone : (t : Tree) → Sound t → (p : ℕ) → kind_in (node_at t p) ≡ Some kinds.Directory → IsUnnamed (shape_of t) p → p ≢ root → ⊥
not_alone t sound p folder unnamed inner =
    let both_ways : kinds.Directory ≡ kinds.Regular = (sound.grown.orphans p kinds.Directory (λ no. no) folder inner unnamed).0 in
    cc both_ways

-- where the entry is, another place has none
elsewhere : (t : Tree) (p x : ℕ) (n : List ℕ) → entry_at t p n ≡ Some x → (q : ℕ) (m : List ℕ) → entry_at t q m ≡ None → IsPlace q m p n → ⊥
elsewhere t p x n names q m free place = not_there (entry_at t) q m p n x place free names

-- the entry at a place names what is there
at_place : (t : Tree) (p x : ℕ) (n : List ℕ) → entry_at t p n ≡ Some x → (q : ℕ) (m : List ℕ) → IsPlace q m p n → entry_at t q m ≡ Some x
at_place t p x n names q m place = ap (λ k. entry_at t k m) (sym place.0) ∙ ap (entry_at t p) (sym place.1) ∙ names

-- ---- nodes that go

settle : (y p x : ℕ) (n : List ℕ) (t : Tree) → InOrder t → (lives t y ≡ false → p ≢ y) → entry_at t p n ≡ Some x → entry_at (settled y t) p n ≡ Some x
settle y p x n t ordered apart names =
    cond_both (lives t y) t (without_node y t) (λ after. entry_at after p n ≡ Some x) (λ is. names) (λ is. (shape-without_node y t ordered).entry p n (apart is) ∙ names)

stamp : (now y p x : ℕ) (n : List ℕ) (t : Tree) → entry_at t p n ≡ Some x → entry_at (change_node y (stamped now) t) p n ≡ Some x
stamp now y p x n t names = (shape-edited now Stamp _ y t).entry p n ∙ names

drop : (now : ℕ) (found : Option ℕ) (p x : ℕ) (n : List ℕ) (t : Tree) → InOrder t → ((y : ℕ) → found ≡ Some y → p ≢ y) → entry_at t p n ≡ Some x → entry_at (dropped now found t) p n ≡ Some x
drop now None p x n t ordered apart names = names
drop now (Some y) p x n t ordered apart names =
    settle y p x n (change_node y (stamped now) t) (InOrder-change_node (stamped now) y t ordered) (λ dead. apart y refl) (stamp now y p x n t names)

-- ---- new nodes

made : (t : Tree) (q : ℕ) (m : List ℕ) (new : Node) (now : ℕ) → InOrder t → kind_in (node_at t q) ≡ Some kinds.Directory → entry_at t q m ≡ None → (p x : ℕ) (n : List ℕ)
    → kind_in (node_at t p) ≡ Some kinds.Directory → entry_at t p n ≡ Some x → entry_at (add_entry q m t.next_inode now (with_node new t)) p n ≡ Some x
made t q m new now ordered parent free p x n folder names =
    let none : node_at t t.next_inode ≡ None = node_at_none_next t ordered t.next_inode (omega arith) in
    let old : (r : ℕ) → kind_in (node_at t r) ≡ Some kinds.Directory → r ≢ t.next_inode = λ r is same.
    none_some (kind_in (node_at t r)) kinds.Directory (ap (λ k. kind_in (node_at t k)) same ∙ ap kind_in none) is in
    let more : Tree = with_node new t in
    let links : Links (shape_of more) (shape_of (add_entry q m t.next_inode now more)) q m t.next_inode =
    shape-add_entry q m t.next_inode now more (ap kind_in (node_at-with_node_other new t q (old q parent)) ∙ parent) in
    links.rest p n (elsewhere t p x n names q m free) ∙ ap (entry_in n) (node_at-with_node_other new t p (old p folder)) ∙ names

-- an entry that names a locked node
module _ (t : Tree) (p x : ℕ) (n : List ℕ) (node : Node) (held : Held t p x n node) where
  folder_of : kind_in (node_at t p) ≡ Some kinds.Directory
  folder_of = held.sound.grown.holds p x n held.names

  -- an entry whose node is not locked is another
  another : (q : ℕ) (m : List ℕ) → lock_check (child_at t q m) ≡ None → IsPlace q m p n → ⊥
  another q m unlocked place = locked_fails (child_at t q m) node (ap (option_and_then (node_at t)) (at_place t p x n held.names q m place) ∙ held.is) held.locked unlocked

  -- a directory that has entries is none that the checks found empty
  not_empty : (q : ℕ) (m : List ℕ) → empty_check (child_at t q m) ≡ None → (y : ℕ) → entry_at t q m ≡ Some y → p ≢ y
  not_empty q m empty y is same =
      let bare : entry_in n (child_at t q m) ≡ None = empty_is (child_at t q m) empty n in
      none_some (entry_at t p n) x (ap (λ k. entry_at t k n) same ∙ sym (ap (λ o. entry_in n (option_and_then (node_at t) o)) is) ∙ bare) held.names

  -- ---- renames

  moved : (q : ℕ) (m : List ℕ) (nq : ℕ) (nm : List ℕ) (now : ℕ) → CanMove t q m nq nm → (found : Option ℕ) → entry_at (moved_entry q m nq nm now found t) p n ≡ Some x
  moved q m nq nm now can None = held.names
  moved q m nq nm now can (Some y) =
      let one : Tree = drop_entry q m now t in
      let two : Tree = drop_entry nq nm now one in
      let three : Tree = add_entry nq nm y now two in
      let first : Unlinks (shape_of t) (shape_of one) q m = shape-drop_entry q m now t held.sound.names in
      let second : Unlinks (shape_of one) (shape_of two) nq nm = shape-drop_entry nq nm now one (NamesInOrder-drop_entry q m now t held.sound.names) in
      let folder : kind_in (node_at t nq) ≡ Some kinds.Directory = folder_is (node_at t nq) can.rename.new_there can.rename.new_folder in
      let links : Links (shape_of two) (shape_of three) nq nm y = shape-add_entry nq nm y now two (second.kind nq ∙ first.kind nq ∙ folder) in
      let old : IsPlace q m p n → ⊥ = another q m can.rename.child_unlocked in
      let new : IsPlace nq nm p n → ⊥ = another nq nm can.new_child_unlocked in
      let ordered : InOrder three = InOrder-change_node _ nq two (InOrder-change_node _ nq one (InOrder-change_node _ q t held.sound.ordered)) in
      drop now (entry_at t nq nm) p x n (change_node y (stamped now) three) (InOrder-change_node (stamped now) y three ordered) (not_empty nq nm can.empty)
      (stamp now y p x n three (links.rest p n new ∙ second.rest p n new ∙ first.rest p n old ∙ held.names))

  -- ---- entries that go

  unlinked : (q : ℕ) (m : List ℕ) (now : ℕ) → CanUnlink t q m → entry_at (dropped now (entry_at t q m) (drop_entry q m now t)) p n ≡ Some x
  unlinked q m now can =
      drop now (entry_at t q m) p x n (drop_entry q m now t) (InOrder-change_node _ q t held.sound.ordered)
      (λ y is same.
      no_folder_is 21 (child_at t q m) can.file (ap (λ o. kind_in (option_and_then (node_at t) o)) is ∙ ap (λ k. kind_in (node_at t k)) (sym same) ∙ folder_of))
      ((shape-drop_entry q m now t held.sound.names).rest p n (another q m can.child_unlocked) ∙ held.names)

  unmade : (q : ℕ) (m : List ℕ) (now : ℕ) → CanUnmake t q m → (found : Option ℕ) → entry_at t q m ≡ found → entry_at (without_node (unwrap_or found 0) (drop_entry q m now t)) p n ≡ Some x
  unmade q m now can None is = absurd (cc (ap entry_check (sym is) ∙ can.drop.entry))
  unmade q m now can (Some y) is =
      (shape-without_node y (drop_entry q m now t) (InOrder-change_node _ q t held.sound.ordered)).entry p n (not_empty q m can.empty y is)
      ∙ (shape-drop_entry q m now t held.sound.names).rest p n (another q m can.child_unlocked) ∙ held.names

  uprooted : (q : ℕ) (m : List ℕ) (now : ℕ) → (found : Option ℕ) → ((top : ℕ) → found ≡ Some top → (is_at_or_below t top p ≡ false) × ((p ≡ q) × (n ≡ m) → ⊥)) → entry_at (without_tree q m now found t) p n ≡ Some x
  uprooted q m now None spares = held.names
  uprooted q m now (Some top) spares =
      let out = spares top refl in
      (shape-without_tree q m now top t held.sound.ordered held.sound.names held.sound.grown.rooted).rest p n out.0 out.1 ∙ held.names

-- ---- a pass that leaves

lives_if : (t : Tree) → Sound t → (w : Tree) (keeps : ℕ → Bool) → Sweeps (shape_of t) (shape_of w) keeps → (p : ℕ) → kind_in (node_at t p) ≡ Some kinds.Directory → (test : Bool) → keeps p ≡ test → keeps p ≡ true
lives_if t sound w keeps sweeps p folder true is = is
lives_if t sound w keeps sweeps p folder false is =
    let dead = sweeps.dead p is in
    absurd (not_alone t sound p folder dead.0 dead.2)

-- ---- every operation

held_effects : (t : Tree) (pass now : ℕ) (op : Op) (p x : ℕ) (n : List ℕ) (node : Node) → Held t p x n node → Spares t p n op replies.Done → Effects t pass now op (λ after. entry_at after p n ≡ Some x)
held_effects t pass now op p x n node held spares = record {
  same = held.names;
  edits = λ e y fits allowed alone of_op. (shape-edited now e alone y t).entry p n ∙ held.names;
  makes = λ q m new begins can.
      made t q m (built now new) now held.sound.ordered (folder_is (node_at t q) can.there can.folder) (free_is (node_at t q) m can.free) p x n (folder_of t p x n node held) held.names;
  creates = λ q m mode uid gid fits can handles.
      made (with_handle (record { inode = t.next_inode; pass = pass }) t) q m (new_file mode uid gid now) now held.sound.ordered (folder_is (node_at t q) can.there can.folder)
      (free_is (node_at t q) m can.free) p x n (folder_of t p x n node held) held.names;
  links = λ y q m can.
      let links : Links (shape_of t) (shape_of (add_entry q m y now t)) q m y = shape-add_entry q m y now t (folder_is (node_at t q) can.parent_there can.parent_folder) in
      stamp now y p x n (add_entry q m y now t) (links.rest p n (elsewhere t p x n held.names q m (free_is (node_at t q) m can.free)) ∙ held.names);
  unlinks = λ q m can. unlinked t p x n node held q m now can;
  unmakes = λ q m can. unmade t p x n node held q m now can (entry_at t q m) refl;
  moves = λ q m nq nm can. moved t p x n node held q m nq nm now can (entry_at t q m);
  opens = λ y there file handles. held.names;
  closes = λ number opened.
      let closed : Tree = without_handle number t in
      let y : ℕ = inode_of (handle_of t pass number) in
      settle y p x n closed held.sound.ordered
      (λ is same.
      let dead = dead_is closed y is in
      not_alone t held.sound p (folder_of t p x n node held) (λ q m names. dead.0 q m (names ∙ ap Some same)) (λ top. dead.2 (sym same ∙ top)))
      held.names;
  copies = λ source q m of_trees can.
      (shape-with_copy source q m now t held.sound.ordered (folder_is (node_at t q) can.there can.folder) (free_is (node_at t q) m can.free) (below_shape t held.sound.names source).itself).old_entry p x n
      held.names;
  locks = λ y. (shape-with_lock y t).entry p n ∙ held.names;
  uproots = λ q m is can. uprooted t p x n node held q m now (entry_at t q m) (λ top names. subst (λ o. Spares t p n o replies.Done) is spares top refl names);
  leaves =
      let keeps : ℕ → Bool = lives (record t { handles = filter (λ h. not (h.1.pass == pass)) t.handles }) in
      let sweeps : Sweeps (shape_of t) (shape_of (without_pass pass t)) keeps = shape-without_pass pass t held.sound.ordered held.sound.names in
      sweeps.entry p n ∙ ap (λ b. cond b (entry_at t p n) None) (lives_if t held.sound (without_pass pass t) keeps sweeps p (folder_of t p x n node held) (keeps p) refl) ∙ held.names;
}

stays : (t : Tree) (pass now : ℕ) (op : Op) (p x : ℕ) (n : List ℕ) (node : Node) → Held t p x n node → (first_failure (checks t pass op) ≡ None → Spares t p n op replies.Done)
    → entry_at (tree_after t pass op now) p n ≡ Some x
stays t pass now op p x n node held spares =
    after_call (λ after. entry_at after p n ≡ Some x) t pass now op held.names
    (λ passes. effects-effect t pass now op (λ after. entry_at after p n ≡ Some x) (held_effects t pass now op p x n node held (spares passes)) passes)

there_still : (found : Option Node) (node : Node) (k : Kind) → kind_in found ≡ Some k → IsKept found node → (time : ℕ) × (found ≡ Some (stamped time node))
there_still found node k is (inl gone) = absurd (none_some (kind_in found) k (ap kind_in gone) is)
there_still found node k is (inr kept) = kept

-- one call leaves the entry and the node that it names
pub one_stays : (t : Tree) (pass now : ℕ) (op : Op) (p x : ℕ) (n : List ℕ) (node : Node) → Held t p x n node → (first_failure (checks t pass op) ≡ None → Spares t p n op replies.Done)
    → IsAsBefore p n x node (tree_after t pass op now)
one_stays t pass now op p x n node held spares =
    let call : Request = record { pass = pass; now = now; op = op } in
    let next : Tree = tree_after t pass op now in
    let names : entry_at next p n ≡ Some x = stays t pass now op p x n node held spares in
    let sound : Sound next = Sound-tree_after t pass now op held.sound in
    let there = sound.grown.there p x n names in
    let kept = there_still (node_at next x) node there.0 there.1 (kept_after t (call ∷ []) x node held.sound.ordered held.is held.locked) in
    record { names = names; time = kept.0; is = kept.1 }

-- ---- lists of calls

spares_done : (t : Tree) (pass now : ℕ) (op : Op) (p : ℕ) (n : List ℕ) → Spares t p n op (reply_to t pass op now) → first_failure (checks t pass op) ≡ None → Spares t p n op replies.Done
spares_done t pass now (ops.RemoveTree q m) p n spares passes = λ top done is. spares top (reply_at t pass now (ops.RemoveTree q m) None passes) is
spares_done t pass now op p n spares passes = _

-- and so do calls that spare it
pub all_stay : (t : Tree) (calls : List Request) (p x : ℕ) (n : List ℕ) (node : Node) → Held t p x n node → AllSpare t p n calls → IsAsBefore p n x node (tree_after_all t calls)
all_stay t [] p x n node held spare = record { names = held.names; time = node.ctime; is = held.is }
all_stay t (call ∷ calls) p x n node held spare =
    let next : Tree = tree_after t call.pass call.op call.now in
    let one : IsAsBefore p n x node next = one_stays t call.pass call.now call.op p x n node held (λ passes. spares_done t call.pass call.now call.op p n spare.0 passes) in
    let rest : IsAsBefore p n x (stamped one.time node) (tree_after_all next calls) =
    all_stay next calls p x n (stamped one.time node) (record { sound = Sound-tree_after t call.pass call.now call.op held.sound; is = one.is; locked = held.locked; names = one.names }) spare.1 in
    record { names = rest.names; time = rest.time; is = rest.is }
