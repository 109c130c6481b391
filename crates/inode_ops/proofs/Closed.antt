-- Plans of Release and Leave: nameless files go with the last handle on them.
use Rattle.std.proofs.Common.{append_assoc, append-nil, add-one, drop, drop-cons, get_or, ◌≡◌, ◌≢◌, ◌<◌, ◌+◌, ℕ, List, [], ◌∷◌, ◌++◌, length, Bool, true, false, cond, Option, None, Some, refl, sym, ap, ◌∙◌, subst, eqb-true, eq-eqb}
use Rattle.std.specs.Prelude.{IsTrue, not, ◌&&◌, ◌||◌, ◌==◌, filter, is_some, map}
use Rattle.std.specs.Map.{remove_entry}
use Rattle.std.specs.Ordering.{nat_cmp}
use Rattle.std.specs.BTreeMap.{is_at}
use Rattle.std.specs.List.{AllByRecursion, list_all, list_any}
use Rattle.std.specs.Cmp.{nat_cmp_total}
use Rattle.std.proofs.lemmas.Bool.{and_parts}
use Rattle.s3_base.specs.Numbers.{root}
use Rattle.s3_base.specs.Errors.{ebadf}
use Rattle.s3_base.specs.declared.node_kind.Kind.{Kind}
use Rattle.s3_base.specs.declared.node_kind.Kind.TheVariants as kinds
use Rattle.op_frames.specs.declared.operation.Op.TheVariants as ops
use Rattle.op_frames.specs.declared.reply.Reply.TheVariants as replies
use Rattle.plain_tree.specs.Tree as tree
use Rattle.plain_tree.specs.Tree.{Handle, Node, Tree, handle_of, node_at, without_handle}
use Rattle.plain_tree.specs.Below.{is_among}
use Rattle.plain_tree.specs.Checks.{fails_with, first_failure}
use Rattle.plain_tree.specs.Classes.{keeps_rows}
use Rattle.plain_tree.specs.Entries.{is_folder, is_named, is_open, lives}
use Rattle.plain_tree.specs.Operations.{checks}
use Rattle.plain_tree.specs.WellFormed.{IsWellFormed, is_file}
use Rattle.s3_rows.specs.declared.change.Change.{Change}
use Rattle.s3_rows.specs.declared.change.Change.TheVariants as changes
use Rattle.s3_rows.specs.Rows as s3_rows
use Rattle.s3_rows.specs.Rows.{Inode, InodeBlock, Slot}
use Rattle.s3_rows.specs.Keyed.{has_key}
use Rattle.s3_rows.specs.Tables.{Tables, by_inode}
use Rattle.s3_rows.specs.Batches.{tables_after}
use Rattle.s3_rows.specs.Selections.{inode_at, target_at}
use Rattle.s3_rows.specs.Validity.{IsValid, HasUniqueNames, differ, is_directory, is_regular}
use Rattle.row_lemmas.proofs.Tests.{find_passes_all, list_all_true}
use Rattle.row_lemmas.proofs.Keyed.RowAt.{row_at_own}
use Rattle.row_lemmas.proofs.Tables.{tables_after-tables_after}
use Rattle.tree_rows.specs.Shapes.{NodeShape, TreeShape, shape_of_node, node_of_row, Represents}
use Rattle.tree_rows.proofs.Whole.{folder_is, number_of}
use Rattle.op_checks.specs.Rows.{open_row_check}
use Rattle.op_checks.proofs.Nodes.{node_there}
use Rattle.ref_counts.specs.Handles.{OpenHandles, HasHandles, closed, closed_all, inode_open, is_held, is_held_alone}
use Rattle.ref_counts.specs.Links.{places_dropped, places_from, places_of, places_of_gone}
use Rattle.ref_counts.specs.Plans.{IsPlanOf}
use Rattle.ref_counts.specs.Removals.{attrs_dropped, attrs_of, removal, removals, target_dropped}
use Rattle.ref_counts.specs.declared.plan.Plan.TheVariants as plans
use Rattle.ref_counts.proofs.Idle.{IsWorn-nameless}
use Rattle.ref_counts.proofs.NextPlaces.{places_dropped-append}
use Rattle.ref_counts.proofs.NonEmpty.{some_before, some_behind, some_changes}
use Rattle.row_steps.specs.RowChanges.{leaving, settling}
use Rattle.row_steps.proofs.LeftPlaces.{left_files_step}
use Rattle.row_steps.proofs.Living.{kept-refcount}
use Rattle.row_steps.proofs.OldFiles.{no_entries, old_file_step}
use Rattle.row_steps.proofs.Owed.Contents.{differ-filter}
use Rattle.row_steps.proofs.Owed.Ends.{Owes-IsValid}
use Rattle.inode_ops.specs.Nameless.{is_nameless, nameless, nameless_dropped, nameless_places}
use Rattle.inode_ops.proofs.Opened.{handle_listed, open_check-row_of}

-- ---- batches that are not empty

-- the removal of an inode
removal_some : (told t : Tables) (x : ℕ) → (length (removal told x t) == 0) ≡ false
removal_some told t x = some_changes (attrs_dropped (attrs_of told x) t ++ target_dropped (target_at told x) x) (changes.DeleteInode x) []

-- ---- Release

regular_row : (r : Inode) → open_row_check (Some r) ≡ None → r.kind ≡ kinds.Regular
regular_row r passes = by_kind r.kind passes
  where
    by_kind : (kind : Kind) → fails_with ebadf (not (is_regular kind)) ≡ None → kind ≡ kinds.Regular
    by_kind kinds.Regular checked = refl
    by_kind kinds.Directory checked = absurd (cc checked)
    by_kind kinds.Link checked = absurd (cc checked)

-- the check of a handle that the pass has, from the row of its inode
module _ (t : Tables) (whole : Tree) (pass number : ℕ) (h : OpenHandles) (inode : ℕ) (found : Option Inode) (same : Represents t whole) (has : HasHandles h whole)
    (own : inode_open h pass number ≡ Some inode) (is : found ≡ inode_at t inode) where
  pub checked_release : (check : Option ℕ) → open_row_check found ≡ check → first_failure (checks whole pass (ops.Release number)) ≡ first_failure (check ∷ [])
  checked_release check checked =
      let handle = handle_listed h whole has pass number inode own in
      open_check-row_of t whole pass number handle.0 found same handle.1 (is ∙ ap (inode_at t) handle.2) ∙ ap (λ c. first_failure (c ∷ [])) checked

  pub release_planned : (now : ℕ) (r : Inode) (batch : List Change) → IsValid t → HasUniqueNames t → t.slots ≡ [] → IsWellFormed whole → found ≡ Some r
      → open_row_check found ≡ None → batch ≡ settling (not (r.refcount == 0) || is_held (closed number h) r.id) t r.id
      → IsPlanOf t whole pass (ops.Release number) now (plans.Commit batch replies.Done [])
  release_planned now r batch v unique slots well some checked made =
      let handle = handle_listed h whole has pass number inode own in
      let row : inode_at t handle.0.inode ≡ Some r = ap (inode_at t) (sym handle.2) ∙ sym is ∙ some in
      let number_is : handle.0.inode ≡ r.id = number_of t handle.0.inode r row in
      let held : is_open (without_handle number whole) handle.0.inode ≡ is_held (closed number h) r.id =
      λ i. list_any (λ (e : ℕ × Handle). e.1.inode == number_is i) (remove_entry (is_at (nat_cmp number)) (has.1 i)) in
      let passes : first_failure (checks whole pass (ops.Release number)) ≡ None = checked_release None checked in
      let step = old_file_step t whole v.params r handle.0 pass number now (is_held (closed number h) r.id) v unique well same v.is_made handle.1 row
      (regular_row r (ap open_row_check (sym some) ∙ checked))
      (subst (λ (rows : List Slot). IsTrue (list_all (λ (x : Slot). not (x.inode == r.id)) rows)) (sym slots) refl) held passes in
      subst (λ cs. IsPlanOf t whole pass (ops.Release number) now (plans.Commit cs replies.Done [])) (sym made)
      (passes, refl, step.0, few (not (r.refcount == 0) || is_held (closed number h) r.id) ∙ sym step.1, refl, IsWorn-nameless t whole (ops.Release number) refl)
    where
      few : (kept : Bool) → (length (settling kept t r.id) == 0) ≡ kept
      few true = refl
      few false = some_behind (places_of_gone false t r.id) (removal t r.id (tables_after (places_of_gone false t r.id) t)) (removal_some t (tables_after (places_of_gone false t r.id) t) r.id)

-- ---- nameless inodes, one after the other

pub nameless_goes : (t u : Tables) (x : ℕ) (r : Inode) → inode_at t x ≡ Some r → (r.refcount == 0) ≡ true → removal t r.id u ≡ nameless_dropped t x u
nameless_goes t u x r there none =
    ap (λ y. removal t y u) (sym (number_of t x r there)) ∙ sym (ap (λ b. cond b (removal t x u) []) (ap is_nameless there ∙ none))

pub drop_next : (xs : List ℕ) (i : ℕ) → i < length xs → drop i xs ≡ get_or xs i 0 ∷ drop (i + 1) xs
drop_next xs i there = drop-cons xs i 0 there ∙ ap (λ k. get_or xs i 0 ∷ drop k xs) (sym (add-one i))

-- what is added for one makes of the batch what is added for it and those behind it
pub nameless_next : (t : Tables) (before after : List Change) (x : ℕ) (xs : List ℕ) → after ≡ before ++ nameless_dropped t x (tables_after before t)
    → after ++ removals t (nameless t xs) (tables_after after t) ≡ before ++ removals t (nameless t (x ∷ xs)) (tables_after before t)
nameless_next t before after x xs added = ap (λ cs. cs ++ removals t (nameless t xs) (tables_after cs t)) added ∙ by_case (is_nameless (inode_at t x))
  where
    by_case : (b : Bool)
        → (before ++ cond b (removal t x (tables_after before t)) []) ++ removals t (nameless t xs) (tables_after (before ++ cond b (removal t x (tables_after before t)) []) t)
        ≡ before ++ removals t (cond b (x ∷ nameless t xs) (nameless t xs)) (tables_after before t)
    by_case true =
        append_assoc before (removal t x (tables_after before t)) (removals t (nameless t xs) (tables_after (before ++ removal t x (tables_after before t)) t))
        ∙ ap (λ u. before ++ (removal t x (tables_after before t) ++ removals t (nameless t xs) u)) (sym (tables_after-tables_after before (removal t x (tables_after before t)) t))
    by_case false = ap (λ cs. cs ++ removals t (nameless t xs) (tables_after cs t)) (append-nil before)

-- and so for the places of one
pub nameless_places_next : (t : Tables) (before after : List Change) (x : ℕ) (xs : List ℕ) → after ≡ before ++ places_dropped (nameless_places t x) (tables_after before t)
    → after ++ places_dropped (places_of t (nameless t xs)) (tables_after after t) ≡ before ++ places_dropped (places_of t (nameless t (x ∷ xs))) (tables_after before t)
nameless_places_next t before after x xs added = ap (λ cs. cs ++ places_dropped (places_of t (nameless t xs)) (tables_after cs t)) added ∙ by_case (is_nameless (inode_at t x))
  where
    by_case : (b : Bool)
        → (before ++ places_dropped (cond b (places_from t x 0) []) (tables_after before t))
        ++ places_dropped (places_of t (nameless t xs)) (tables_after (before ++ places_dropped (cond b (places_from t x 0) []) (tables_after before t)) t)
        ≡ before ++ places_dropped (places_of t (cond b (x ∷ nameless t xs) (nameless t xs))) (tables_after before t)
    by_case true =
        let own : List Change = places_dropped (places_from t x 0) (tables_after before t) in
        append_assoc before own (places_dropped (places_of t (nameless t xs)) (tables_after (before ++ own) t))
        ∙ ap (λ (u : Tables). before ++ (own ++ places_dropped (places_of t (nameless t xs)) u)) (sym (tables_after-tables_after before own t))
        ∙ ap (λ (cs : List Change). before ++ cs) (sym (places_dropped-append (places_from t x 0) (places_of t (nameless t xs)) (tables_after before t)))
    by_case false = ap (λ cs. cs ++ places_dropped (places_of t (nameless t xs)) (tables_after cs t)) (append-nil before)

pub nameless_places_go : (t u : Tables) (x : ℕ) (r : Inode) → inode_at t x ≡ Some r → (r.refcount == 0) ≡ true → places_dropped (places_from t r.id 0) u ≡ places_dropped (nameless_places t x) u
nameless_places_go t u x r there none =
    ap (λ y. places_dropped (places_from t y 0) u) (sym (number_of t x r there))
    ∙ sym (ap (λ b. places_dropped (cond b (places_from t x 0) []) u) (ap is_nameless there ∙ none))

-- ---- Leave

is_among-filter : (p : ℕ → Bool) (xs : List ℕ) (x : ℕ) → is_among (filter p xs) x ≡ (p x && is_among xs x)
is_among-filter p [] x = by_case (p x)
  where
    by_case : (b : Bool) → false ≡ (b && false)
    by_case true = refl
    by_case false = refl
is_among-filter p (y ∷ ys) x = by_case (p y) refl (y == x) refl (is_among-filter p ys x)
  where
    by_case : (b : Bool) → p y ≡ b → (c : Bool) → (y == x) ≡ c → is_among (filter p ys) x ≡ (p x && is_among ys x)
        → is_among (cond b (y ∷ filter p ys) (filter p ys)) x ≡ (p x && ((y == x) || is_among ys x))
    by_case true own true here others =
        (λ i. here i || is_among (filter p ys) x) ∙ sym ((λ i. p x && (here i || is_among ys x)) ∙ (λ i. (ap p (sym (eqb-true y x here)) ∙ own) i && true))
    by_case true own false other others = (λ i. other i || others i) ∙ sym (λ i. p x && (other i || is_among ys x))
    by_case false own true here others =
        let none : p x ≡ false = ap p (sym (eqb-true y x here)) ∙ own in
        others ∙ (λ i. none i && is_among ys x) ∙ sym (λ i. none i && ((y == x) || is_among ys x))
    by_case false own false other others = others ∙ sym (λ i. p x && (other i || is_among ys x))

all_map : {X Y : Type 0} (p : Y → Bool) (f : X → Y) (xs : List X) → list_all p (map f xs) ≡ list_all (λ x. p (f x)) xs
all_map p f [] = refl
all_map p f (x ∷ xs) = ap (λ b. p (f x) && b) (all_map p f xs)

list_all_agree : {X : Type 0} (p q : X → Bool) (xs : List X) → AllByRecursion (λ x. p x ≡ q x) xs → list_all p xs ≡ list_all q xs
list_all_agree p q [] same = refl
list_all_agree p q (x ∷ xs) same = λ i. same.0 i && list_all_agree p q xs same.1 i

-- where all that go have rows, none goes exactly where all rows stay
none_goes : (t : Tables) (ys : List ℕ) → ((y : ℕ) → IsTrue (is_among ys y) → (r : Inode) × (inode_at t y ≡ Some r))
    → (length (leaving t ys) == 0) ≡ list_all (λ (r : Inode). not (is_among ys r.id)) t.inodes
none_goes t [] there = sym (list_all_true t.inodes)
none_goes t (y ∷ ys) there =
    some_behind (places_dropped (places_of t (y ∷ ys)) t) (removals t (y ∷ ys) (tables_after (places_dropped (places_of t (y ∷ ys)) t) t))
    (some_before (removal t y (tables_after (places_dropped (places_of t (y ∷ ys)) t) t)) _ (removal_some t (tables_after (places_dropped (places_of t (y ∷ ys)) t) t) y)) ∙ sym (by_all (list_all (λ (r : Inode). not (is_among (y ∷ ys) r.id)) t.inodes) refl)
  where
    by_all : (b : Bool) → list_all (λ (r : Inode). not (is_among (y ∷ ys) r.id)) t.inodes ≡ b → b ≡ false
    by_all true all =
        let row = there y (ap (λ b. b || is_among ys y) (eq-eqb y y refl)) in
        let stays : IsTrue (not (is_among (y ∷ ys) row.0.id)) = find_passes_all (has_key by_inode y) (λ (r : Inode). not (is_among (y ∷ ys) r.id)) t.inodes row.0 all row.1 in
        let goes : is_among (y ∷ ys) row.0.id ≡ true = ap (λ b. b || is_among ys row.0.id) (eq-eqb y row.0.id (number_of t y row.0 row.1)) in
        let clash : false ≡ true = sym (ap not goes) ∙ stays in
        absurd (cc clash)
    by_all false all = refl

no_folder : (found : Option Node) → IsTrue (is_file found) → is_folder found ≡ false
no_folder None is = refl
no_folder (Some node) is = by_content node.content is
  where
    by_content : (content : tree.Content) → IsTrue (is_file (Some (record node { content = content }))) → is_folder (Some (record node { content = content })) ≡ false
    by_content (tree.Regular bytes) file = refl
    by_content (tree.Directory entries) file = absurd (cc file)
    by_content (tree.Link target) file = refl

both_fail : (a b : Bool) → (a || b) ≡ false → (a ≡ false) × (b ≡ false)
both_fail true b is = absurd (cc is)
both_fail false b is = (refl, is)

module _ (t : Tables) (whole : Tree) (h : OpenHandles) (pass : ℕ) (held : List ℕ) (v : IsValid t) (same : Represents t whole) (well : IsWellFormed whole) (has : HasHandles h whole)
    (alone : (x : ℕ) → is_among held x ≡ is_held_alone pass h x) where
  abbrev left : Tree
  left = record whole { handles = filter (λ (e : ℕ × Handle). not (e.1.pass == pass)) whole.handles }

  abbrev is_lost : ℕ → Bool
  is_lost x = is_nameless (inode_at t x)

  open_is : (x : ℕ) → is_open whole x ≡ is_held h x
  open_is x = ap (λ (handles : List (ℕ × Handle)). list_any (λ (e : ℕ × Handle). e.1.inode == x) handles) has.1

  -- what goes has the row of a file
  lost_row : (x : ℕ) → IsTrue (is_among (nameless t held) x) → (r : Inode) × (inode_at t x ≡ Some r) × (is_directory r.kind ≡ false)
  lost_row x among = by_row (inode_at t x) refl parts.0
    where
      parts : IsTrue (is_lost x) × IsTrue (is_among held x)
      parts = and_parts (is_lost x) (is_among held x) (sym (is_among-filter is_lost held x) ∙ among)

      file : IsTrue (is_file (node_at whole x))
      file = well.orphans.handles x (open_is x ∙ (and_parts (is_held h x) (not (is_held (closed_all pass h) x)) (sym (alone x) ∙ parts.1)).0)

      by_row : (found : Option Inode) → inode_at t x ≡ found → IsTrue (is_nameless found) → (r : Inode) × (inode_at t x ≡ Some r) × (is_directory r.kind ≡ false)
      by_row None is none = absurd (cc none)
      by_row (Some r) is none = (
        r,
        is,
        sym (ap (λ (found : Option Inode). elim found [ Some y ↦ is_directory y.kind | None ↦ false ]) is) ∙ sym (folder_is t whole same x)
            ∙ no_folder (node_at whole x) file,
      )

  empty : (x : ℕ) → IsTrue (is_among (nameless t held) x) → IsTrue (list_all (λ (r : s3_rows.Content). not (r.parent == x)) t.contents)
  empty x among =
      let row = lost_row x among in
      let number : x ≡ row.0.id = number_of t x row.0 row.1 in
      subst (λ y. IsTrue (list_all (λ (r : s3_rows.Content). not (r.parent == y)) t.contents)) (sym number)
      (no_entries t row.0 (ap (inode_at t) (sym number) ∙ row.1) row.2 (Owes-IsValid t v.params v v.is_made))

  -- a nameless file has a handle
  lost_is_held : (r : Inode) → inode_at t r.id ≡ Some r → (r.refcount == 0) ≡ true → is_held h r.id ≡ true
  lost_is_held r there none =
      let parts = both_fail (r.id == root) (is_named whole r.id) (kept-refcount t whole r.id r v same there ∙ ap not none) in
      sym (open_is r.id) ∙ (well.orphans.orphans r.id (ap is_some (node_there t whole same r.id r there).1) (not_root parts.0) parts.1).1
    where
      not_root : (r.id == root) ≡ false → r.id ≢ root
      not_root apart equal =
          let clash : true ≡ false = sym (eq-eqb r.id root equal) ∙ apart in
          cc clash

  stays_is : (r : Inode) → inode_at t r.id ≡ Some r → lives left r.id ≡ not (is_among (nameless t held) r.id)
  stays_is r there =
      (λ i. kept-refcount t whole r.id r v same there i
      || list_any (λ (e : ℕ × Handle). e.1.inode == r.id) (filter (λ (e : ℕ × Handle). not (e.1.pass == pass)) (has.1 i)))
      ∙ by_case (r.refcount == 0) refl (is_held (closed_all pass h) r.id)
      ∙ sym (ap not (is_among-filter is_lost held r.id ∙ (λ i. is_nameless (there i) && alone r.id i)))
    where
      nothing : (b : Bool) → true ≡ not (b && false)
      nothing true = refl
      nothing false = refl

      by_case : (b : Bool) → (r.refcount == 0) ≡ b → (other : Bool) → (not b || other) ≡ not (b && (is_held h r.id && not other))
      by_case false some other = refl
      by_case true none true = nothing (is_held h r.id)
      by_case true none false = sym (ap (λ b. not (b && true)) (lost_is_held r there none))

  keeps_is : (length (leaving t (nameless t held)) == 0) ≡ keeps_rows whole pass ops.Leave
  keeps_is =
      let lives_on : ℕ × NodeShape → Bool = λ e. lives left e.0 in
      let of_node : ℕ × Node → ℕ × NodeShape = λ e. (e.0, shape_of_node e.1) in
      let of_row : Inode → ℕ × NodeShape = λ r. (r.id, node_of_row t r) in
      none_goes t (nameless t held) (λ y among. let row = lost_row y among in (row.0, row.1))
      ∙ sym (sym (all_map lives_on of_node whole.nodes) ∙ ap (λ (s : TreeShape). list_all lives_on s.nodes) (sym same) ∙ all_map lives_on of_row t.inodes
      ∙ list_all_agree (λ (r : Inode). lives left r.id) (λ (r : Inode). not (is_among (nameless t held) r.id)) t.inodes
      (each t.inodes (row_at_own by_inode nat_cmp_total t.inodes v.ordered.inodes)))
    where
      each : (rows : List Inode) → AllByRecursion (λ (r : Inode). inode_at t r.id ≡ Some r) rows
          → AllByRecursion (λ (r : Inode). lives left r.id ≡ not (is_among (nameless t held) r.id)) rows
      each [] there = tt
      each (r ∷ rs) there = (stays_is r there.0, each rs there.1)

  pub leave_planned : (now : ℕ) (batch : List Change) → HasUniqueNames t → t.slots ≡ [] → IsTrue (differ (λ a b. b == a) held)
      → batch ≡ leaving t (nameless t held) → IsPlanOf t whole pass ops.Leave now (plans.Commit batch replies.Done [])
  leave_planned now batch unique slots apart made =
      subst (λ cs. IsPlanOf t whole pass ops.Leave now (plans.Commit cs replies.Done [])) (sym made) (
        refl,
        refl,
        left_files_step t whole v.params pass now (nameless t held) v unique well same v.is_made empty
            (λ x among. subst (λ (rows : List Slot). IsTrue (list_all (λ (r : Slot). not (r.inode == x)) rows)) (sym slots) refl)
            (differ-filter (λ a b. b == a) is_lost held apart) stays_is,
        keeps_is,
        refl,
        IsWorn-nameless t whole ops.Leave refl,
      )
