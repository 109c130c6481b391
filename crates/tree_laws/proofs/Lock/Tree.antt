-- A tree that was locked stays, until a removal.
use Rattle.std.proofs.Common.{◌≡◌, ◌≢◌, ℕ, zero, suc, List, [], ◌∷◌, true, false, Option, None, Some, refl, sym, ap, ◌∙◌, inl, inr}
use Rattle.std.proofs.lemmas.Bool.{cases_eq, eq-eqb, false_from_ne_true, both_ways}
use Rattle.std.specs.Option.{option_map}
use Rattle.std.specs.Prelude.{◌==◌}
use Rattle.op_frames.specs.Replay.{Request}
use Rattle.op_frames.specs.declared.operation.Op.{Op}
use Rattle.op_frames.specs.declared.operation.Op.TheVariants as ops
use Rattle.op_frames.specs.declared.reply.Reply.TheVariants as replies
use Rattle.s3_base.specs.declared.node_kind.Kind.{Kind}
use Rattle.s3_base.specs.declared.node_kind.Kind.TheVariants as kinds
use Rattle.plain_tree.specs.Below.{is_among, at_and_below, is_at_or_below}
use Rattle.plain_tree.specs.Calls.{tree_after_all}
use Rattle.plain_tree.specs.Checks.{first_failure, root_check}
use Rattle.plain_tree.specs.Entries.{entry_at}
use Rattle.plain_tree.specs.Operations.{checks, reply_to, tree_after}
use Rattle.plain_tree.specs.Subtrees.{with_lock}
use Rattle.s3_base.specs.Numbers.{root}
use Rattle.plain_tree.specs.Tree.{Node, Tree, made_tree, node_at, stamped}
use Rattle.plain_tree.proofs.Replies.{reply_at, tree_at}
use Rattle.tree_laws.specs.LockedTrees.{Spares, AllSpare, SparesTree, AllSpareTree, IsAsBefore, StaysLocked}
use Rattle.tree_laws.proofs.Lock.Entry.{one_stays, all_stay}
use Rattle.tree_laws.proofs.Lock.Refusal.{locked_fails}
use Rattle.tree_laws.proofs.Node.Kind.{kind_in, entry_in, kind_some, entry_some, folder_is}
use Rattle.tree_laws.proofs.Node.Subtree.{lock_within, locked_found}
use Rattle.tree_laws.proofs.Shape.Below.{below_shape}
use Rattle.tree_laws.proofs.Shape.Gain.{inside_above}
use Rattle.tree_laws.proofs.Shape.Operations.{Sound-tree_after}
use Rattle.tree_laws.proofs.Shape.Steps.{Sound}
use Rattle.tree_laws.proofs.Shape.Subtree.{shape-with_lock}
use Rattle.tree_laws.proofs.Shape.Tree.{shape_of}
use Rattle.tree_laws.proofs.Shape.Words.{Leads, NoneGoes, one_entry}
use Rattle.tree_laws.proofs.Walk.Calls.{passes_if_done}
use Rattle.tree_laws.proofs.Walk.Passed.{all_pass, not_failed, can_uproot}
use Rattle.tree_laws.proofs.WellFormed.{reached_sound}

-- an entry of a locked node stays, in every tree that calls lead to
pub entries_stay : (block_size time : ℕ) (calls more : List Request) (parent inode : ℕ) (name : List ℕ) (node : Node) → node_at (tree_after_all (made_tree block_size time) calls) inode ≡ Some node
    → node.locked ≡ true → entry_at (tree_after_all (made_tree block_size time) calls) parent name ≡ Some inode → AllSpare (tree_after_all (made_tree block_size time) calls) parent name more
    → IsAsBefore parent name inode node (tree_after_all (tree_after_all (made_tree block_size time) calls) more)
entries_stay block_size time calls more parent inode name node is locked names spare =
    all_stay (tree_after_all (made_tree block_size time) calls) more parent inode name node
    (record { sound = reached_sound block_size time calls; is = is; locked = locked; names = names }) spare

-- ---- every inode that a lock reaches has a name

named_way : (t : Tree) (steps x : ℕ) → x ≢ root → Leads (entry_at t) steps x → (p : ℕ) × (n : List ℕ) × (entry_at t p n ≡ Some x)
named_way t zero x inner leads = absurd (inner leads)
named_way t (suc steps) x inner leads = (leads.0, leads.1, leads.2)

not_root : (x : ℕ) → root_check x ≡ None → x ≢ root
not_root x passes same =
    both_ways _ (not_failed 1 (x == root) passes) (eq-eqb x root same)

-- ---- a tree in which all at and below a directory is locked and as it was

record Kept (t : Tree) (top q : ℕ) (m : List ℕ) (later : Tree) : Type 0 where
  pub sound : Sound later
  pub nodes : (x : ℕ) (node : Node) → is_at_or_below t top x ≡ true → node_at t x ≡ Some node → (time : ℕ) × (node_at later x ≡ Some (stamped time (record node { locked = true })))
  pub name : entry_at later q m ≡ Some top

tree_done : (t : Tree) (pass now : ℕ) (op : Op) (x : ℕ) → SparesTree t x op (reply_to t pass op now) → first_failure (checks t pass op) ≡ None → SparesTree t x op replies.Done
tree_done t pass now (ops.RemoveTree q m) x spares passes = λ top done is. spares top (reply_at t pass now (ops.RemoveTree q m) None passes) is
tree_done t pass now op x spares passes = _

-- a later tree in which all at and below the directory is locked and as it was
module _ (t : Tree) (top q : ℕ) (m : List ℕ) (later : Tree) (sound : Sound t) (keeps : Kept t top q m later) where
  entry_later : (p x : ℕ) (n : List ℕ) → is_at_or_below t top p ≡ true → entry_at t p n ≡ Some x → entry_at later p n ≡ Some x
  entry_later p x n within names =
      let node = entry_some n x (node_at t p) names in
      let kept = keeps.nodes p node.0 within node.1 in
      ap (entry_in n) kept.1 ∙ node.2

  -- a removal in a locked directory is refused
  refused_there : (pass from : ℕ) (by : List ℕ) → first_failure (checks later pass (ops.RemoveTree from by)) ≡ None → (p x : ℕ) (n : List ℕ) → is_at_or_below t top p ≡ true → entry_at t p n ≡ Some x → from ≡ p → ⊥
  refused_there pass from by passes p x n within names same =
      let node = entry_some n x (node_at t p) names in
      let kept = keeps.nodes p node.0 within node.1 in
      locked_fails (node_at later from) (stamped kept.0 (record node.0 { locked = true })) (ap (node_at later) same ∙ kept.1) refl (can_uproot later pass from by passes).drop.unlocked

  -- no directory inside is at or below one that is removed
  apart_from : (pass from : ℕ) (by : List ℕ) → first_failure (checks later pass (ops.RemoveTree from by)) ≡ None → (r : ℕ) → entry_at later from by ≡ Some r → is_at_or_below later r top ≡ false → (steps p : ℕ) → Leads (entry_at later) steps p → kind_in (node_at later p) ≡ Some kinds.Directory → is_at_or_below t top p ≡ true → is_at_or_below later r p ≡ true → ⊥
  apart_from pass from by passes r is out zero p leads folder within removed =
      elim (cases_eq p top) [
        | inl same ↦ both_ways (is_at_or_below later r top) out (ap (is_at_or_below later r) (sym same) ∙ removed)
        | inr apart ↦ elim ((below_shape t sound.names top).up p within) [
          | inl same ↦ apart same
          | inr above ↦ sound.grown.top above.0 above.1 (above.3 ∙ ap Some leads)
        ]
      ]
  apart_from pass from by passes r is out (suc steps) p leads folder within removed =
      elim (cases_eq p top) [
        | inl same ↦ both_ways (is_at_or_below later r top) out (ap (is_at_or_below later r) (sym same) ∙ removed)
        | inr apart ↦ elim ((below_shape t sound.names top).up p within) [
          | inl same ↦ apart same
          | inr above ↦
              let named : entry_at later above.0 above.1 ≡ Some p = entry_later above.0 p above.1 above.2 above.3 in
              elim (cases_eq p r) [
                | inl same ↦
                    refused_there pass from by passes above.0 p above.1 above.2 above.3
                    (keeps.sound.grown.once above.0 from p above.1 by folder named (is ∙ ap Some (sym same))).0
                | inr differs ↦
                    apart_from pass from by passes r is out steps leads.0 leads.3 (keeps.sound.grown.holds leads.0 p leads.1 leads.2)
                    (ap (is_at_or_below t top) (keeps.sound.grown.once above.0 leads.0 p above.1 leads.1 folder named leads.2).0 ∙ above.2)
                    (inside_above NoneGoes (shape_of later) r (is_among (at_and_below later r)) (below_shape later keeps.sound.names r) keeps.sound.grown leads.0 p leads.1 differs folder removed leads.2)
              ]
        ]
      ]

  spares_inside : (pass : ℕ) (op : Op) → SparesTree later top op replies.Done → (p x : ℕ) (n : List ℕ) → is_at_or_below t top p ≡ true → entry_at t p n ≡ Some x → first_failure (checks later pass op) ≡ None → Spares later p n op replies.Done
  spares_inside pass (ops.RemoveTree from by) spares p x n within names passes =
      let folder : kind_in (node_at later p) ≡ Some kinds.Directory = keeps.sound.grown.holds p x n (entry_later p x n within names) in
      let way = keeps.sound.grown.leads p (λ no. no) folder in
      λ r done is. (
        false_from_ne_true (is_at_or_below later r p) (λ removed. apart_from pass from by passes r is (spares r refl is) way.0 p way.1 folder within removed),
        λ place. refused_there pass from by passes p x n within names (sym place.0),
      )
  spares_inside pass op spares p x n within names passes = _

  spares_first : (op : Op) → SparesTree later top op replies.Done → Spares later q m op replies.Done
  spares_first (ops.RemoveTree from by) spares = λ r done is. (
    false_from_ne_true (is_at_or_below later r q) (λ removed. both_ways (is_at_or_below later r top) (spares r refl is) ((below_shape later keeps.sound.names r).down q top m removed keeps.name)),
    λ place.
        both_ways (is_at_or_below later r top) (spares r refl is)
        (ap (is_at_or_below later r) (one_entry (entry_at later) from by q m r top place is keeps.name) ∙ (below_shape later keeps.sound.names r).itself),
  )
  spares_first op spares = _

  kept_on : kind_in (node_at t top) ≡ Some kinds.Directory → (pass now : ℕ) (op : Op) → SparesTree later top op (reply_to later pass op now) → Kept t top q m (tree_after later pass op now)
  kept_on folder pass now op spares =
      let next : Tree = tree_after later pass op now in
      let first : (x : ℕ) (node : Node) → is_at_or_below t top x ≡ true → node_at t x ≡ Some node → x ≡ top → IsAsBefore q m x (record node { locked = true }) next =
      λ x node within is same.
      let old = keeps.nodes x node within is in
      let one = one_stays later pass now op q x m (stamped old.0 (record node { locked = true })) (record { sound = keeps.sound; is = old.1; locked = refl; names = keeps.name ∙ ap Some (sym same) })
      (λ passes. spares_first op (tree_done later pass now op top spares passes)) in
      record { names = one.names; time = one.time; is = one.is } in
      let top_node = kind_some (node_at t top) kinds.Directory folder in
      record {
        sound = Sound-tree_after later pass now op keeps.sound;
        nodes = λ x node within is.
            elim ((below_shape t sound.names top).up x within) [
              | inl same ↦
                  let one = first x node within is same in
                  (one.time, one.is)
              | inr from ↦
                  let old = keeps.nodes x node within is in
                  let one = one_stays later pass now op from.0 x from.1 (stamped old.0 (record node { locked = true }))
                  (record { sound = keeps.sound; is = old.1; locked = refl; names = entry_later from.0 x from.1 from.2 from.3 })
                  (λ passes. spares_inside pass op (tree_done later pass now op top spares passes) from.0 x from.1 from.2 from.3 passes) in
                  (one.time, one.is)
            ];
        name = (first top top_node.0 (below_shape t sound.names top).itself top_node.1 refl).names;
      }

kept_all : (t : Tree) (top q : ℕ) (m : List ℕ) (later : Tree) (calls : List Request) → Sound t → kind_in (node_at t top) ≡ Some kinds.Directory → Kept t top q m later → AllSpareTree later top calls
    → Kept t top q m (tree_after_all later calls)
kept_all t top q m later [] sound folder keeps spare = keeps
kept_all t top q m later (call ∷ calls) sound folder keeps spare =
    kept_all t top q m (tree_after later call.pass call.op call.now) calls sound folder (kept_on t top q m later sound keeps folder call.pass call.now call.op spare.0) spare.1

same_entries : (n : List ℕ) (found after : Option Node) (node : Node) (time : ℕ) → found ≡ Some node → after ≡ Some (stamped time (record node { locked = true })) → entry_in n after ≡ entry_in n found
same_entries n found after node time was is = ap (entry_in n) is ∙ sym (ap (entry_in n) was)

-- what lies at or below is there
there_below : (t : Tree) → Sound t → (top : ℕ) → kind_in (node_at t top) ≡ Some kinds.Directory → (x : ℕ) → is_at_or_below t top x ≡ true → (k : Kind) × (kind_in (node_at t x) ≡ Some k)
there_below t sound top folder x within =
    elim ((below_shape t sound.names top).up x within) [
      | inl same ↦ (kinds.Directory, ap (λ k. kind_in (node_at t k)) same ∙ folder)
      | inr from ↦ sound.grown.there from.0 x from.1 from.3
    ]

-- a locked tree stays
pub locked_by : (t : Tree) → Sound t → (more : List Request) (pass now top : ℕ) → reply_to t pass (ops.LockTree top) now ≡ replies.Done → AllSpareTree (tree_after t pass (ops.LockTree top) now) top more
    → StaysLocked top t (tree_after_all (tree_after t pass (ops.LockTree top) now) more)
locked_by t sound more pass now top done spare =
    let op : Op = ops.LockTree top in
    let passes : first_failure (checks t pass op) ≡ None = passes_if_done t pass now op done in
    let all = all_pass (checks t pass op) passes in
    let folder : kind_in (node_at t top) ≡ Some kinds.Directory = folder_is (node_at t top) all.0 all.1.0 in
    let next : Tree = tree_after t pass op now in
    let after : Tree = tree_after_all next more in
    let next_is : next ≡ with_lock top t = tree_at t pass now op None passes in
    let keeps : (q : ℕ) (m : List ℕ) → entry_at t q m ≡ Some top → Kept t top q m after =
    λ q m names.
    kept_all t top q m next more sound folder
    (record {
      sound = Sound-tree_after t pass now op sound;
      nodes = λ x node within is. (
        node.ctime,
        ap (λ (a : Tree). node_at a x) next_is ∙ locked_found (at_and_below t top) x t.nodes
            ∙ ap (λ found. option_map (lock_within (is_among (at_and_below t top) x)) found) is ∙ ap (λ b. Some (lock_within b node)) within,
      );
      name = ap (λ (a : Tree). entry_at a q m) next_is ∙ (shape-with_lock top t).entry q m ∙ names;
    })
    spare in
    let way = sound.grown.leads top (λ no. no) folder in
    let named = named_way t way.0 top (not_root top all.1.1.0) way.1 in
    let kept : Kept t top named.0 named.1 after = keeps named.0 named.1 named.2 in
    record {
      nodes = kept.nodes;
      entries = λ p n within.
          let there = there_below t sound top folder p within in
          let node = kind_some (node_at t p) there.0 there.1 in
          let later = kept.nodes p node.0 within node.1 in
          same_entries n (node_at t p) (node_at after p) node.0 later.0 node.1 later.1;
      its_name = λ q m names. (keeps q m names).name;
    }

-- and so does a locked tree, in every tree that calls lead to
pub trees_stay : (block_size time : ℕ) (calls more : List Request) (pass now inode : ℕ) → reply_to (tree_after_all (made_tree block_size time) calls) pass (ops.LockTree inode) now ≡ replies.Done
    → AllSpareTree (tree_after (tree_after_all (made_tree block_size time) calls) pass (ops.LockTree inode) now) inode more
    → StaysLocked inode (tree_after_all (made_tree block_size time) calls) (tree_after_all (tree_after (tree_after_all (made_tree block_size time) calls) pass (ops.LockTree inode) now) more)
trees_stay block_size time calls more pass now inode done spare =
    locked_by (tree_after_all (made_tree block_size time) calls) (reached_sound block_size time calls) more pass now inode done spare
