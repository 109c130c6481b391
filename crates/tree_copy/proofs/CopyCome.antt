-- How far the walk of a copy has come, turn by turn.
use Rattle.std.proofs.Common.{◌≡◌, ◌≢◌, ◌⊎◌, inl, inr, ℕ, ◌+◌, List, [], ◌∷◌, ◌++◌, map, Bool, true, false, cond, Option, None, Some, refl, sym, ap, ◌∙◌, subst, arith, eq-eqb, eqb-true}
use Rattle.std.proofs.lemmas.Bool.{and_from, and_parts, both_ways, false_from_ne_true, or_cases, or_left, or_right}
use Rattle.std.proofs.lemmas.Cmp.{nat_list_cmp_total}
use Rattle.std.proofs.lemmas.List.{append-nil, append_assoc}
use Rattle.std.proofs.lemmas.Simd.{map-map}
use Rattle.std.specs.Cmp.{tied_itself}
use Rattle.std.specs.FinMap.{nat_cmp-IsAntisymmetric, slice_cmp-IsAntisymmetric}
use Rattle.std.specs.List.{filter_map, list_any}
use Rattle.std.specs.Ordering.{is_eq, is_lt, ordering_reverse}
use Rattle.std.specs.Prelude.{IsTrue, not, ◌&&◌, ◌||◌, ◌==◌, filter, find, is_some}
use Rattle.s3_base.specs.declared.node_kind.Kind.{Kind}
use Rattle.plain_tree.specs.Below.{at_and_below, children, is_among, is_at_or_below}
use Rattle.plain_tree.specs.Checks.{name_check}
use Rattle.plain_tree.specs.Entries as entries
use Rattle.plain_tree.specs.Entries.{entries_of, entry_at, is_folder}
use Rattle.plain_tree.specs.Subtrees.{copy_number}
use Rattle.plain_tree.specs.Tree as tree
use Rattle.plain_tree.specs.Tree.{Node, Tree, node_at}
use Rattle.plain_tree.specs.WellFormed.{IsWellFormed}
use Rattle.s3_rows.specs.declared.lists.NamedEntry.{NamedEntry}
use Rattle.s3_rows.specs.Keyed.{has_key, is_past, rises, row_at, rows_past}
use Rattle.s3_rows.specs.Rows.{Inode}
use Rattle.s3_rows.specs.Selections.{by_entry_name, bytes_cmp, inode_at, named_entries, with_entry_name}
use Rattle.s3_rows.specs.Tables.{Tables}
use Rattle.s3_rows.specs.Validity.{IsValid, differ, has_inode, is_directory}
use Rattle.row_lemmas.proofs.Filters.{filter_all}
use Rattle.row_lemmas.proofs.Keyed.Filter.{if_passes, row_at-filter}
use Rattle.row_lemmas.proofs.Keyed.Rest.{rows_past_first, rows_past_none}
use Rattle.row_lemmas.proofs.Keyed.Rises.{rises-filter, rises_head}
use Rattle.row_lemmas.proofs.Keyed.RowAt.{list_all_from_row_at, row_at_from_find, row_at_key, row_at_passes}
use Rattle.row_lemmas.proofs.Keyed.Sorted.{rises-sorted_by}
use Rattle.row_lemmas.proofs.Tests.{equal_from_is_eq, find_passes, less_from_is_lt}
use Rattle.tree_laws.proofs.Shape.Below.{below_shape}
use Rattle.tree_rows.specs.Shapes.{Directory, NodeShape, shape_of_content, Represents}
use Rattle.tree_rows.proofs.Whole.{content_of_kind, folder_is, number_of}
use Rattle.tree_copy.specs.declared.walk.Level.{Level}
use Rattle.tree_copy.specs.CopiedRows.{AreVisits, AreVisitsOf, IsVisit, Visit, all_seen, is_visited, seen_after}
use Rattle.tree_copy.specs.CopyLevels.{AreLevels, HasCome, IsLevel, first_level, inodes_behind, level_behind, levels_after, seen_yet, visit_of, waits}
use Rattle.tree_copy.specs.WalkOrder.{walked}
use Rattle.tree_copy.proofs.SameEntries.{among_first, among_last, place_last, place_none, place_stays}
use Rattle.tree_copy.proofs.Visits.{listed_entry, list_any-last, node_of_found, row_of_folder, some_of}
use Rattle.tree_copy.proofs.WalkOrder.{at_and_below_walked, walked_new, walked_seen}

-- ---- names

name_later : (name : List ℕ) → name_check name ≡ None → IsTrue (is_lt (bytes_cmp [] name))
name_later [] is = absurd (cc is)
name_later (b ∷ bs) is = refl

lt_trans : (a b c : List ℕ) → IsTrue (is_lt (bytes_cmp a b)) → IsTrue (is_lt (bytes_cmp b c)) → IsTrue (is_lt (bytes_cmp a c))
lt_trans a b c first second =
    ap is_lt (nat_list_cmp_total.trans a b c (less_from_is_lt (bytes_cmp a b) first) (less_from_is_lt (bytes_cmp b c) second))

later_is_other : (a b : List ℕ) → IsTrue (is_lt (bytes_cmp a b)) → is_eq (bytes_cmp b a) ≡ false
later_is_other a b less = ap is_eq (nat_list_cmp_total.antisymm b a ∙ ap ordering_reverse (less_from_is_lt (bytes_cmp a b) less))

one_name : (a b : List ℕ) → IsTrue (is_eq (bytes_cmp a b)) → a ≡ b
one_name a b same = slice_cmp-IsAntisymmetric nat_cmp-IsAntisymmetric a b (equal_from_is_eq (bytes_cmp a b) same)

-- a row behind a name is the next, or comes after it
next_is_least : (last name : List ℕ) (rows : List NamedEntry) (e y : NamedEntry) → IsTrue (rises by_entry_name rows) → find (is_past by_entry_name last) rows ≡ Some e
    → row_at by_entry_name name rows ≡ Some y → IsTrue (is_lt (bytes_cmp last name)) → (name ≡ e.name) ⊎ IsTrue (is_lt (bytes_cmp e.name name))
next_is_least last name rows e y up next found later = by_key (has_key by_entry_name name e) refl
  where
    number : name ≡ y.name
    number = slice_cmp-IsAntisymmetric nat_cmp-IsAntisymmetric name y.name (row_at_key by_entry_name name rows y found)

    behind : rows_past by_entry_name last rows ≡ e ∷ rows_past by_entry_name e.name rows
    behind = rows_past_first by_entry_name nat_list_cmp_total last rows e up next

    there : row_at by_entry_name name (e ∷ rows_past by_entry_name e.name rows) ≡ Some y
    there =
        ap (row_at by_entry_name name) (sym behind) ∙ row_at-filter by_entry_name nat_list_cmp_total (is_past by_entry_name last) name rows up
        ∙ ap (if_passes (is_past by_entry_name last)) found
        ∙ ap (λ b. cond b (Some y) None) (subst (λ n. IsTrue (is_lt (bytes_cmp last n))) number later)

    all_later : IsTrue (rises by_entry_name (e ∷ rows_past by_entry_name e.name rows))
    all_later = subst (λ (l : List NamedEntry). IsTrue (rises by_entry_name l)) behind (rises-filter by_entry_name (is_past by_entry_name last) rows up)

    by_key : (b : Bool) → has_key by_entry_name name e ≡ b → (name ≡ e.name) ⊎ IsTrue (is_lt (bytes_cmp e.name name))
    by_key true is = inl (one_name name e.name is)
    by_key false is =
        inr (subst (λ n. IsTrue (is_lt (bytes_cmp e.name n))) (sym number)
        (row_at_passes by_entry_name (is_past by_entry_name e.name) name (rows_past by_entry_name e.name rows) y
        (rises_head by_entry_name e (rows_past by_entry_name e.name rows) all_later)
        (sym (ap (λ b. cond b (Some e) (row_at by_entry_name name (rows_past by_entry_name e.name rows))) is) ∙ there)))

-- ---- visits

pub all_seen-last : (seen : List ℕ) (visits : List Visit) (v : Visit) → all_seen seen (visits ++ v ∷ []) ≡ seen_after (all_seen seen visits) v
all_seen-last seen [] v = refl
all_seen-last seen (w ∷ visits) v = all_seen-last (seen_after seen w) visits v

AreVisits-last : (told : Tables) (seen : List ℕ) (done visits : List Visit) (v : Visit) → AreVisits told seen done visits → IsVisit told (all_seen seen visits) v
    → is_visited (done ++ visits) v.directory v.entry.name ≡ false → AreVisits told seen done (visits ++ v ∷ [])
AreVisits-last told seen done [] v are is new = (is, ap (λ (ds : List Visit). is_visited ds v.directory v.entry.name) (sym (append-nil done)) ∙ new, tt)
AreVisits-last told seen done (w ∷ visits) v are is new = (
  are.0,
  are.1,
  AreVisits-last told (seen_after seen w) (done ++ w ∷ []) visits v are.2 is
      (ap (λ (ds : List Visit). is_visited ds v.directory v.entry.name) (append_assoc done (w ∷ []) visits) ∙ new),
)

pub or_none : (b : Bool) → (b || false) ≡ b
or_none true = refl
or_none false = refl

or_all : (b : Bool) → (b || true) ≡ true
or_all true = refl
or_all false = refl

-- what the entries of a node name
abbrev below : Option Node → List ℕ
below found = elim found [ Some n ↦ map (λ e. e.1) (entries_of n.content) | None ↦ [] ]

-- ---- a tree and tables that represent it

module _ (told : Tables) (whole : Tree) (v : IsValid told) (same : Represents told whole) (well : IsWellFormed whole) (top : ℕ)
    (top_folder : IsTrue (has_inode is_directory told top)) where
  -- the entries of a directory rise
  rising : (x : ℕ) → IsTrue (rises by_entry_name (named_entries told x))
  rising x = rises-sorted_by by_entry_name nat_list_cmp_total (filter_map (with_entry_name told) (filter (λ r. r.parent == x) told.contents))

  -- behind no name are all entries of a directory
  all_behind : (x copy : ℕ) → IsTrue (has_inode is_directory told x) → inodes_behind told (first_level x copy) ≡ children whole x
  all_behind x copy folder =
      let d = row_of_folder told x folder in
      let node = node_of_found told whole same x d.0 d.1 in
      let own : shape_of_content node.0.content ≡ Directory (map (λ (e : NamedEntry). (e.name, e.row.inode)) (named_entries told x)) =
      ap (λ (s : NodeShape). s.content) node.2 ∙ ap (content_of_kind told d.0) d.2
      ∙ ap (λ k. Directory (map (λ (e : NamedEntry). (e.name, e.row.inode)) (named_entries told k))) (sym (number_of told x d.0 d.1)) in
      let second : List ℕ × ℕ → ℕ = λ e. e.1 in
      let pair : NamedEntry → List ℕ × ℕ = λ e. (e.name, e.row.inode) in
      let behind : rows_past by_entry_name [] (named_entries told x) ≡ named_entries told x =
      filter_all (is_past by_entry_name []) (named_entries told x)
      (list_all_from_row_at by_entry_name nat_list_cmp_total (is_past by_entry_name []) (named_entries told x) (rising x)
      (λ k e found.
      let listed : entry_at whole x k ≡ Some e.row.inode = listed_entry told whole same x k e folder found in
      subst (λ n. IsTrue (is_lt (bytes_cmp [] n))) (slice_cmp-IsAntisymmetric nat_cmp-IsAntisymmetric k e.name (row_at_key by_entry_name k (named_entries told x) e found))
      (name_later k (well.tree.names x e.row.inode k listed)))) in
      ap (map (λ (e : NamedEntry). e.row.inode)) behind ∙ sym (map-map second pair (named_entries told x))
      ∙ sym (ap (map second) (entries_are node.0.content (map pair (named_entries told x)) own))
      ∙ sym (ap (λ (found : Option Node). below found) node.1)
    where
      entries_are : (content : tree.Content) (es : List (List ℕ × ℕ)) → shape_of_content content ≡ Directory es → entries_of content ≡ es
      entries_are (tree.Directory own) es is = cc is
      entries_are (tree.Regular bytes) es is = absurd (cc is)
      entries_are (tree.Link target) es is = absurd (cc is)

  -- what is no directory has no children
  no_children : (x : ℕ) → has_inode is_directory told x ≡ false → children whole x ≡ []
  no_children x file = by_node (node_at whole x) refl
    where
      none : (n : Node) (content : tree.Content) → n.content ≡ content → node_at whole x ≡ Some n → map (λ (e : List ℕ × ℕ). e.1) (entries_of content) ≡ []
      none n (tree.Directory es) is at =
          absurd (both_ways (has_inode is_directory told x) file (sym (folder_is told whole same x) ∙ ap is_folder at ∙ ap entries.is_directory is))
      none n (tree.Regular bytes) is at = refl
      none n (tree.Link target) is at = refl

      by_node : (found : Option Node) → node_at whole x ≡ found → children whole x ≡ []
      by_node None at = ap below at
      by_node (Some n) at = ap below at ∙ none n n.content refl at

  -- a name that a directory has comes after none
  listed_later : (x : ℕ) (name : List ℕ) → IsTrue (has_inode is_directory told x) → IsTrue (is_some (row_at by_entry_name name (named_entries told x)))
      → IsTrue (is_lt (bytes_cmp [] name))
  listed_later x name folder some =
      let e = some_of (row_at by_entry_name name (named_entries told x)) some in
      name_later name (well.tree.names x e.0.row.inode name (listed_entry told whole same x name e.0 folder e.1))

  pub come_first : HasCome told whole top [] (first_level top whole.next_inode ∷ [])
  come_first = record {
    each = tt;
    order = ap (λ xs. walked whole xs (top ∷ [])) (all_behind top whole.next_inode top_folder) ∙ sym (at_and_below_walked whole top);
    apart = refl;
    levels_are = (
      record {
        seen_before = or_left (top == top) false (eq-eqb top top refl);
        folder = top_folder;
        copy = sym (ap (λ b. whole.next_inode + cond {A = ℕ} b 0 1) (eq-eqb top top refl) ∙ omega arith);
        behind = λ name later. refl;
      },
      tt,
    );
    within = λ x name is. absurd (cc is);
    all = λ x name among folder some.
        or_left ((top == x) && is_lt (bytes_cmp [] name)) false
        (and_from (top == x) (is_lt (bytes_cmp [] name)) (sym (or_none (top == x)) ∙ among) (listed_later x name folder some));
    named = λ x among other. absurd (other (sym (eqb-true top x (sym (or_none (top == x)) ∙ among))));
    below = λ x among. subst (λ y. is_at_or_below whole top y ≡ true) (eqb-true top x (sym (or_none (top == x)) ∙ among)) (below_shape whole well.names top).itself;
  }

  -- ---- a level that is done

  pub come_done : (visits : List Visit) (l : Level) (levels : List Level) → HasCome told whole top visits (l ∷ levels)
      → find (is_past by_entry_name l.last) (named_entries told l.directory) ≡ None → HasCome told whole top visits levels
  come_done visits l levels come none =
      let behind : rows_past by_entry_name l.last (named_entries told l.directory) ≡ [] = rows_past_none by_entry_name l.last (named_entries told l.directory) none in
      record {
        each = come.each;
        order = ap (λ (rows : List NamedEntry). seen_yet told whole levels (walked whole (map (λ e. e.row.inode) rows) (all_seen (top ∷ []) visits))) (sym behind) ∙ come.order;
        apart = (and_parts (not (list_any (λ b. b.directory == l.directory) levels)) (differ (λ a b. b.directory == a.directory) levels) come.apart).1;
        levels_are = come.levels_are.1;
        within = come.within;
        all = λ x name among folder some.
            elim (or_cases (is_visited visits x name) (waits (l ∷ levels) x name) (come.all x name among folder some)) [
              | inl visited ↦ or_left (is_visited visits x name) (waits levels x name) visited
              | inr waiting ↦ elim (or_cases (l.directory == x && is_lt (bytes_cmp l.last name)) (waits levels x name) waiting) [
                | inl here ↦
                    let parts = and_parts (l.directory == x) (is_lt (bytes_cmp l.last name)) here in
                    let e = some_of (row_at by_entry_name name (named_entries told x)) some in
                    absurd (nothing l name behind parts.1 e.0 (ap (λ k. row_at by_entry_name name (named_entries told k)) (eqb-true l.directory x parts.0) ∙ e.1))
                | inr later ↦ or_right (is_visited visits x name) (waits levels x name) later
              ]
            ];
        named = come.named;
        below = come.below;
      }
    where
      nothing : (l : Level) (name : List ℕ) → rows_past by_entry_name l.last (named_entries told l.directory) ≡ [] → IsTrue (is_lt (bytes_cmp l.last name))
          → (e : NamedEntry) → row_at by_entry_name name (named_entries told l.directory) ≡ Some e → ⊥
      nothing l name behind later e found =
          let number : name ≡ e.name = slice_cmp-IsAntisymmetric nat_cmp-IsAntisymmetric name e.name (row_at_key by_entry_name name (named_entries told l.directory) e found) in
          let there : row_at by_entry_name name (rows_past by_entry_name l.last (named_entries told l.directory)) ≡ Some e =
          row_at-filter by_entry_name nat_list_cmp_total (is_past by_entry_name l.last) name (named_entries told l.directory) (rising l.directory)
          ∙ ap (if_passes (is_past by_entry_name l.last)) found
          ∙ ap (λ b. cond b (Some e) None) (subst (λ n. IsTrue (is_lt (bytes_cmp l.last n))) number later) in
          let clash : None ≡ Some e = ap (row_at by_entry_name name) (sym behind) ∙ there in
          cc clash

  -- ---- an entry of a level

  -- the tree has it too
  pub listed_name : (l : Level) → IsTrue (has_inode is_directory told l.directory) → (e : NamedEntry)
      → find (is_past by_entry_name l.last) (named_entries told l.directory) ≡ Some e → entry_at whole l.directory e.name ≡ Some e.row.inode
  listed_name l folder e next =
      listed_entry told whole same l.directory e.name e folder
      (row_at_from_find by_entry_name nat_list_cmp_total (is_past by_entry_name l.last) (named_entries told l.directory) e (rising l.directory) next)

  module _ (visits : List Visit) (l : Level) (levels : List Level) (come : HasCome told whole top visits (l ∷ levels)) (e : NamedEntry)
      (next : find (is_past by_entry_name l.last) (named_entries told l.directory) ≡ Some e) (r : Inode) (there : inode_at told e.row.inode ≡ Some r) where
    abbrev seen : List ℕ
    seen = all_seen (top ∷ []) visits

    abbrev visit : Visit
    visit = visit_of l e r

    abbrev more : List Visit
    more = visits ++ visit_of l e r ∷ []

    level : IsLevel told whole.next_inode seen visits l
    level = come.levels_are.0

    e_named : row_at by_entry_name e.name (named_entries told l.directory) ≡ Some e
    e_named = row_at_from_find by_entry_name nat_list_cmp_total (is_past by_entry_name l.last) (named_entries told l.directory) e (rising l.directory) next

    last_less : IsTrue (is_lt (bytes_cmp l.last e.name))
    last_less = find_passes (is_past by_entry_name l.last) (named_entries told l.directory) e next

    pub number : e.row.inode ≡ r.id
    number = number_of told e.row.inode r there

    pub names : entry_at whole l.directory e.name ≡ Some r.id
    names = listed_entry told whole same l.directory e.name e level.folder e_named ∙ ap Some number

    pub is_visit : IsVisit told seen (visit_of l e r)
    is_visit = record { seen_before = level.seen_before; folder = level.folder; named = e_named; child = there }

    not_yet : is_visited visits l.directory e.name ≡ false
    not_yet = level.behind e.name last_less

    each_more : AreVisits told (top ∷ []) [] more
    each_more = AreVisits-last told (top ∷ []) [] visits visit come.each is_visit not_yet

    seen_more : all_seen (top ∷ []) more ≡ seen_after seen visit
    seen_more = all_seen-last (top ∷ []) visits visit

    visited_more : (x : ℕ) (name : List ℕ) → is_visited more x name ≡ (is_visited visits x name || (x == l.directory && is_eq (bytes_cmp name e.name)))
    visited_more x name = list_any-last (λ w. x == w.directory && is_eq (bytes_cmp name w.entry.name)) visits visit

    still_visited : (x : ℕ) (name : List ℕ) → is_visited visits x name ≡ true → is_visited more x name ≡ true
    still_visited x name is = visited_more x name ∙ or_left (is_visited visits x name) (x == l.directory && is_eq (bytes_cmp name e.name)) is

    just_visited : is_visited more l.directory e.name ≡ true
    just_visited =
        visited_more l.directory e.name
        ∙ or_right (is_visited visits l.directory e.name) (l.directory == l.directory && is_eq (bytes_cmp e.name e.name))
        (and_from (l.directory == l.directory) (is_eq (bytes_cmp e.name e.name)) (eq-eqb l.directory l.directory refl) (ap is_eq (tied_itself nat_list_cmp_total e.name)))

    not_more : (x : ℕ) (name : List ℕ) → is_visited visits x name ≡ false → (x == l.directory && is_eq (bytes_cmp name e.name)) ≡ false → is_visited more x name ≡ false
    not_more x name old other =
        visited_more x name ∙ ap (λ b. b || (x == l.directory && is_eq (bytes_cmp name e.name))) old ∙ other

    -- what is left of the level
    rest_is : inodes_behind told l ≡ r.id ∷ inodes_behind told (level_behind l e.name)
    rest_is =
        ap (map (λ (x : NamedEntry). x.row.inode)) (rows_past_first by_entry_name nat_list_cmp_total l.last (named_entries told l.directory) e (rising l.directory) next)
        ∙ ap (λ k. k ∷ inodes_behind told (level_behind l e.name)) number

    order_before : seen_yet told whole levels (walked whole (r.id ∷ inodes_behind told (level_behind l e.name)) seen) ≡ at_and_below whole top
    order_before = ap (λ xs. seen_yet told whole levels (walked whole xs seen)) (sym rest_is) ∙ come.order

    below_more : is_at_or_below whole top r.id ≡ true
    below_more = (below_shape whole well.names top).down l.directory r.id e.name (come.below l.directory level.seen_before) names

    apart_parts : IsTrue (not (list_any (λ b. b.directory == l.directory) levels)) × IsTrue (differ (λ a b. b.directory == a.directory) levels)
    apart_parts = and_parts (not (list_any (λ b. b.directory == l.directory) levels)) (differ (λ a b. b.directory == a.directory) levels) come.apart

    -- the level behind the entry
    level_more : (now_seen : List ℕ) → is_among now_seen l.directory ≡ true → copy_number whole.next_inode now_seen l.directory ≡ copy_number whole.next_inode seen l.directory
        → IsLevel told whole.next_inode now_seen more (level_behind l e.name)
    level_more now_seen among moved = record {
      seen_before = among;
      folder = level.folder;
      copy = level.copy ∙ sym moved;
      behind = λ name later.
          not_more l.directory name (level.behind name (lt_trans l.last e.name name last_less later))
          (ap (λ b. l.directory == l.directory && b) (later_is_other e.name name later) ∙ none_of (l.directory == l.directory));
    }
      where
        none_of : (b : Bool) → (b && false) ≡ false
        none_of true = refl
        none_of false = refl

    -- the other levels
    others_more : (now_seen : List ℕ) → ((x : ℕ) → is_among seen x ≡ true → (is_among now_seen x ≡ true) × (copy_number whole.next_inode now_seen x ≡ copy_number whole.next_inode seen x))
        → (ls : List Level) → list_any (λ b. b.directory == l.directory) ls ≡ false → AreLevels told whole.next_inode seen visits ls → AreLevels told whole.next_inode now_seen more ls
    others_more now_seen stays [] other are = tt
    others_more now_seen stays (k ∷ ls) other are =
        let parts = neither (k.directory == l.directory) (list_any (λ b. b.directory == l.directory) ls) other in
        let old = stays k.directory are.0.seen_before in (
          record {
            seen_before = old.0;
            folder = are.0.folder;
            copy = are.0.copy ∙ sym old.1;
            behind = λ name later. not_more k.directory name (are.0.behind name later) (ap (λ b. b && is_eq (bytes_cmp name e.name)) parts.0);
          },
          others_more now_seen stays ls parts.1 are.1,
        )
      where
        neither : (a b : Bool) → (a || b) ≡ false → (a ≡ false) × (b ≡ false)
        neither true b is = absurd (cc is)
        neither false b is = (refl, is)

    false_not : (b : Bool) → IsTrue (not b) → b ≡ false
    false_not true is = absurd (cc is)
    false_not false is = refl

    -- an entry of a directory that was seen is visited, or waits still
    all_more : (x : ℕ) (name : List ℕ) → is_among seen x ≡ true → IsTrue (has_inode is_directory told x) → IsTrue (is_some (row_at by_entry_name name (named_entries told x)))
        → (is_visited more x name || waits (level_behind l e.name ∷ levels) x name) ≡ true
    all_more x name among folder some =
        elim (or_cases (is_visited visits x name) (waits (l ∷ levels) x name) (come.all x name among folder some)) [
          | inl visited ↦ or_left (is_visited more x name) (waits (level_behind l e.name ∷ levels) x name) (still_visited x name visited)
          | inr waiting ↦ elim (or_cases (l.directory == x && is_lt (bytes_cmp l.last name)) (waits levels x name) waiting) [
            | inl here ↦
                let parts = and_parts (l.directory == x) (is_lt (bytes_cmp l.last name)) here in
                let own : l.directory ≡ x = eqb-true l.directory x parts.0 in
                let y = some_of (row_at by_entry_name name (named_entries told x)) some in
                elim (next_is_least l.last name (named_entries told l.directory) e y.0 (rising l.directory) next
                (ap (λ k. row_at by_entry_name name (named_entries told k)) own ∙ y.1) parts.1) [
                  | inl it ↦
                      or_left (is_visited more x name) (waits (level_behind l e.name ∷ levels) x name)
                      ((λ i. is_visited more (sym own i) (it i)) ∙ just_visited)
                  | inr later ↦
                      or_right (is_visited more x name) (waits (level_behind l e.name ∷ levels) x name)
                      (or_left (l.directory == x && is_lt (bytes_cmp e.name name)) (waits levels x name) (and_from (l.directory == x) (is_lt (bytes_cmp e.name name)) parts.0 later))
                ]
            | inr later ↦
                or_right (is_visited more x name) (waits (level_behind l e.name ∷ levels) x name)
                (or_right (l.directory == x && is_lt (bytes_cmp e.name name)) (waits levels x name) later)
          ]
        ]

    -- ---- what it names was seen

    pub come_again : is_among seen r.id ≡ true → HasCome told whole top more (level_behind l e.name ∷ levels)
    come_again again =
        let same_seen : all_seen (top ∷ []) more ≡ seen = seen_more ∙ ap (λ b. cond b seen (seen ++ r.id ∷ [])) again in
        let stays : (x : ℕ) → is_among seen x ≡ true → (is_among seen x ≡ true) × (copy_number whole.next_inode seen x ≡ copy_number whole.next_inode seen x) = λ x among. (among, refl) in
        record {
          each = each_more;
          order =
              ap (λ s. seen_yet told whole levels (walked whole (inodes_behind told (level_behind l e.name)) s)) same_seen
              ∙ ap (seen_yet told whole levels) (sym (walked_seen whole r.id (inodes_behind told (level_behind l e.name)) seen again)) ∙ order_before;
          apart = come.apart;
          levels_are =
              subst (λ s. AreLevels told whole.next_inode s more (level_behind l e.name ∷ levels)) (sym same_seen)
              (level_more seen level.seen_before refl, others_more seen stays levels (false_not (list_any (λ b. b.directory == l.directory) levels) apart_parts.0) come.levels_are.1);
          within = λ x name is. ap (λ s. is_among s x) same_seen ∙ within_more x name is;
          all = λ x name among folder some. all_more x name (ap (λ s. is_among s x) (sym same_seen) ∙ among) folder some;
          named = λ x among other.
              let old = come.named x (ap (λ s. is_among s x) (sym same_seen) ∙ among) other in
              (old.0, old.1, still_visited old.0 old.1 old.2, old.3);
          below = λ x among. come.below x (ap (λ s. is_among s x) (sym same_seen) ∙ among);
        }
      where
        within_more : (x : ℕ) (name : List ℕ) → is_visited more x name ≡ true → is_among seen x ≡ true
        within_more x name is =
            elim (or_cases (is_visited visits x name) (x == l.directory && is_eq (bytes_cmp name e.name)) (sym (visited_more x name) ∙ is)) [
              | inl old ↦ come.within x name old
              | inr new ↦ ap (is_among seen) (eqb-true x l.directory (and_parts (x == l.directory) (is_eq (bytes_cmp name e.name)) new).0) ∙ level.seen_before
            ]

    -- ---- what it names is seen first

    module _ (copy : ℕ) (new : is_among seen r.id ≡ false) (copy_is : copy ≡ copy_number whole.next_inode seen r.id) where
      abbrev later_seen : List ℕ
      later_seen = seen ++ r.id ∷ []

      new_seen : all_seen (top ∷ []) more ≡ later_seen
      new_seen = seen_more ∙ ap (λ b. cond b seen (seen ++ r.id ∷ [])) new

      stays : (x : ℕ) → is_among seen x ≡ true → (is_among later_seen x ≡ true) × (copy_number whole.next_inode later_seen x ≡ copy_number whole.next_inode seen x)
      stays x among = (among_first seen (r.id ∷ []) x among, ap (λ k. whole.next_inode + k) (place_stays seen (r.id ∷ []) x among))

      parts_of : {X : Type 0} (x : ℕ) → is_among later_seen x ≡ true → (is_among seen x ≡ true → X) → (r.id ≡ x → X) → X
      parts_of x among first last =
          elim (or_cases (is_among seen x) (r.id == x) (sym (among_last seen r.id x) ∙ among)) [
            | inl old ↦ first old
            | inr here ↦ last (eqb-true r.id x here)
          ]

      itself : is_among later_seen r.id ≡ true
      itself = among_last seen r.id r.id ∙ ap (λ b. is_among seen r.id || b) (eq-eqb r.id r.id refl) ∙ or_all (is_among seen r.id)

      -- a directory that was seen is another
      apart_from : (x : ℕ) → is_among seen x ≡ true → (x == r.id) ≡ false
      apart_from x among = false_from_ne_true (x == r.id) (λ is. both_ways (is_among seen x) (ap (is_among seen) (eqb-true x r.id is) ∙ new) among)

      levels_other : (ls : List Level) → AreLevels told whole.next_inode seen visits ls → list_any (λ b. b.directory == r.id) ls ≡ false
      levels_other [] are = refl
      levels_other (k ∷ ls) are =
          ap (λ b. b || list_any (λ c. c.directory == r.id) ls) (apart_from k.directory are.0.seen_before) ∙ levels_other ls are.1

      order_now : seen_yet told whole levels (walked whole (inodes_behind told (level_behind l e.name)) (walked whole (children whole r.id) later_seen)) ≡ at_and_below whole top
      order_now = ap (seen_yet told whole levels) (sym (walked_new whole r.id (inodes_behind told (level_behind l e.name)) seen new)) ∙ order_before

      within_new : (x : ℕ) (name : List ℕ) → is_visited more x name ≡ true → is_among later_seen x ≡ true
      within_new x name is =
          elim (or_cases (is_visited visits x name) (x == l.directory && is_eq (bytes_cmp name e.name)) (sym (visited_more x name) ∙ is)) [
            | inl old ↦ among_first seen (r.id ∷ []) x (come.within x name old)
            | inr now ↦
                among_first seen (r.id ∷ []) x
                (ap (is_among seen) (eqb-true x l.directory (and_parts (x == l.directory) (is_eq (bytes_cmp name e.name)) now).0) ∙ level.seen_before)
          ]

      -- its entries are not visited
      none_visited : (name : List ℕ) → is_visited more r.id name ≡ false
      none_visited name =
          not_more r.id name (false_from_ne_true (is_visited visits r.id name) (λ is. both_ways (is_among seen r.id) new (come.within r.id name is)))
          (ap (λ b. b && is_eq (bytes_cmp name e.name)) (false_from_ne_true (r.id == l.directory) (λ is. both_ways (is_among seen r.id) new (ap (is_among seen) (eqb-true r.id l.directory is) ∙ level.seen_before))))

      named_new : (x : ℕ) → is_among later_seen x ≡ true → x ≢ top → (d : ℕ) × (name : List ℕ) × (is_visited more d name ≡ true) × (entry_at whole d name ≡ Some x)
      named_new x among other =
          parts_of x among
          (λ old.
          let from = come.named x old other in
          (from.0, from.1, still_visited from.0 from.1 from.2, from.3))
          (λ here. (l.directory, e.name, just_visited, names ∙ ap Some here))

      below_new : (x : ℕ) → is_among later_seen x ≡ true → is_at_or_below whole top x ≡ true
      below_new x among = parts_of x among (λ old. come.below x old) (λ here. ap (is_at_or_below whole top) (sym here) ∙ below_more)

      old_levels : AreLevels told whole.next_inode later_seen more (level_behind l e.name ∷ levels)
      old_levels = (
        level_more later_seen (stays l.directory level.seen_before).0 (stays l.directory level.seen_before).1,
        others_more later_seen stays levels (false_not (list_any (λ b. b.directory == l.directory) levels) apart_parts.0) come.levels_are.1,
      )

      row_test : (test : Kind → Bool) → has_inode test told r.id ≡ test r.kind
      row_test test = ap (λ (found : Option Inode). elim found [ Some y ↦ test y.kind | None ↦ false ]) (ap (inode_at told) (sym number) ∙ there)

      come_folder : IsTrue (is_directory r.kind) → HasCome told whole top more (first_level r.id copy ∷ level_behind l e.name ∷ levels)
      come_folder folder =
          let folder_there : IsTrue (has_inode is_directory told r.id) = row_test is_directory ∙ folder in
          record {
            each = each_more;
            order =
                ap (λ s. seen_yet told whole levels (walked whole (inodes_behind told (level_behind l e.name)) (walked whole (inodes_behind told (first_level r.id copy)) s))) new_seen
                ∙ ap (λ xs. seen_yet told whole levels (walked whole (inodes_behind told (level_behind l e.name)) (walked whole xs later_seen))) (all_behind r.id copy folder_there)
                ∙ order_now;
            apart =
                and_from (not (list_any (λ b. b.directory == r.id) (level_behind l e.name ∷ levels))) (differ (λ a b. b.directory == a.directory) (level_behind l e.name ∷ levels))
                (ap not (ap (λ b. b || list_any (λ c. c.directory == r.id) levels) (apart_from l.directory level.seen_before) ∙ levels_other levels come.levels_are.1)) come.apart;
            levels_are =
                subst (λ s. AreLevels told whole.next_inode s more (first_level r.id copy ∷ level_behind l e.name ∷ levels)) (sym new_seen) (
                  record {
                    seen_before = itself;
                    folder = folder_there;
                    copy = copy_is ∙ ap (λ k. whole.next_inode + k) (place_none seen r.id new ∙ sym (place_last seen r.id new));
                    behind = λ name later. none_visited name;
                  },
                  old_levels,
                );
            within = λ x name is. ap (λ s. is_among s x) new_seen ∙ within_new x name is;
            all = λ x name among own some.
                parts_of x (ap (λ s. is_among s x) (sym new_seen) ∙ among)
                (λ old. past_level x name (all_more x name old own some))
                (λ here.
                or_right (is_visited more x name) (waits (first_level r.id copy ∷ level_behind l e.name ∷ levels) x name)
                (or_left (r.id == x && is_lt (bytes_cmp [] name)) (waits (level_behind l e.name ∷ levels) x name)
                (and_from (r.id == x) (is_lt (bytes_cmp [] name)) (eq-eqb r.id x here) (listed_later x name own some))));
            named = λ x among other. named_new x (ap (λ s. is_among s x) (sym new_seen) ∙ among) other;
            below = λ x among. below_new x (ap (λ s. is_among s x) (sym new_seen) ∙ among);
          }
        where
          past_level : (x : ℕ) (name : List ℕ) → (is_visited more x name || waits (level_behind l e.name ∷ levels) x name) ≡ true
              → (is_visited more x name || waits (first_level r.id copy ∷ level_behind l e.name ∷ levels) x name) ≡ true
          past_level x name is =
              elim (or_cases (is_visited more x name) (waits (level_behind l e.name ∷ levels) x name) is) [
                | inl visited ↦ or_left (is_visited more x name) (waits (first_level r.id copy ∷ level_behind l e.name ∷ levels) x name) visited
                | inr waiting ↦
                    or_right (is_visited more x name) (waits (first_level r.id copy ∷ level_behind l e.name ∷ levels) x name)
                    (or_right (r.id == x && is_lt (bytes_cmp [] name)) (waits (level_behind l e.name ∷ levels) x name) waiting)
              ]

      come_file : is_directory r.kind ≡ false → HasCome told whole top more (level_behind l e.name ∷ levels)
      come_file file =
          let no_folder : has_inode is_directory told r.id ≡ false = row_test is_directory ∙ file in
          record {
            each = each_more;
            order =
                ap (λ s. seen_yet told whole levels (walked whole (inodes_behind told (level_behind l e.name)) s)) new_seen
                ∙ ap (λ xs. seen_yet told whole levels (walked whole (inodes_behind told (level_behind l e.name)) (walked whole xs later_seen))) (sym (no_children r.id no_folder))
                ∙ order_now;
            apart = come.apart;
            levels_are = subst (λ s. AreLevels told whole.next_inode s more (level_behind l e.name ∷ levels)) (sym new_seen) old_levels;
            within = λ x name is. ap (λ s. is_among s x) new_seen ∙ within_new x name is;
            all = λ x name among own some.
                parts_of x (ap (λ s. is_among s x) (sym new_seen) ∙ among)
                (λ old. all_more x name old own some)
                (λ here. absurd (both_ways (has_inode is_directory told r.id) no_folder (ap (has_inode is_directory told) here ∙ own)));
            named = λ x among other. named_new x (ap (λ s. is_among s x) (sym new_seen) ∙ among) other;
            below = λ x among. below_new x (ap (λ s. is_among s x) (sym new_seen) ∙ among);
          }

      pub come_new : HasCome told whole top more (levels_after l e r false copy levels)
      come_new = by_kind (is_directory r.kind) refl
        where
          by_kind : (b : Bool) → is_directory r.kind ≡ b
              → HasCome told whole top more ((cond b (first_level r.id copy ∷ []) []) ++ level_behind l e.name ∷ levels)
          by_kind true folder = come_folder folder
          by_kind false file = come_file file

  -- ---- all of it

  pub come_all : (visits : List Visit) → HasCome told whole top visits [] → AreVisitsOf told (at_and_below whole top) top visits
  come_all visits come = record {
    each = come.each;
    order_is = come.order;
    complete = λ x name among folder some.
        elim (or_cases (is_visited visits x name) (waits [] x name) (come.all x name (ap (λ s. is_among s x) come.order ∙ among) folder some)) [
          | inl visited ↦ visited
          | inr waiting ↦ absurd (cc waiting)
        ];
  }
