-- How far a walk through a directory and all below it has come, entry by entry.
use Rattle.std.proofs.Common.{◌≡◌, ℕ, List, [], ◌∷◌, ◌++◌, Bool, true, false, cond, Option, None, Some, refl, sym, ap, ◌∙◌, subst, ◌⊎◌, inl, inr, eqb-true, eq-eqb}
use Rattle.std.proofs.lemmas.Bool.{and_from, and_parts, or_cases, or_left, or_right}
use Rattle.std.proofs.lemmas.Cmp.{nat_list_cmp_total}
use Rattle.std.proofs.lemmas.List.{map-append}
use Rattle.std.proofs.lemmas.List.Folds.{list_all-append, list_any-append}
use Rattle.std.specs.List.{AllByRecursion, filter_map, list_all, slice_get}
use Rattle.std.specs.Ordering.{is_lt}
use Rattle.std.specs.Prelude.{IsTrue, ◌==◌, ◌&&◌, ◌||◌, filter, option_map}
use Rattle.plain_tree.specs.Below.{is_at_or_below}
use Rattle.plain_tree.specs.Checks.{name_check}
use Rattle.plain_tree.specs.Entries.{entry_at}
use Rattle.plain_tree.specs.Tree.{Tree}
use Rattle.plain_tree.specs.WellFormed.{IsWellFormed}
use Rattle.s3_rows.specs.declared.change.Change.{Change}
use Rattle.s3_rows.specs.declared.change.Change.TheVariants as changes
use Rattle.s3_rows.specs.declared.lists.NamedEntry.{NamedEntry}
use Rattle.s3_rows.specs.Keyed.{rises, row_at}
use Rattle.s3_rows.specs.Rows.{Content, Inode}
use Rattle.s3_rows.specs.Selections.{by_entry_name, bytes_cmp, entries_listed, inode_at, named_entries, with_entry_name}
use Rattle.s3_rows.specs.Tables.{Tables}
use Rattle.s3_rows.specs.Validity.{IsValid, any_kind, finds_of_entry, has_inode, is_directory}
use Rattle.row_lemmas.proofs.Keyed.Sorted.{rises-sorted_by}
use Rattle.row_lemmas.proofs.Tests.{find_passes, find_passes_all}
use Rattle.tree_rows.specs.Shapes.{Represents}
use Rattle.tree_rows.proofs.Listed.{is_entry}
use Rattle.tree_rows.proofs.Whole.{entry_found, number_of}
use Rattle.tree_laws.proofs.Shape.Below.{below_shape}
use Rattle.immutable_trees.specs.declared.walk.Level.{Level}
use Rattle.immutable_trees.specs.Levels.{HasCome, IsLockOf, first_level, is_directory_within, levels_behind, waits}
use Rattle.immutable_trees.specs.LockedRows.{is_listed, locked_row}
use Rattle.immutable_trees.proofs.NextNames.{entry_at-named_entries, next_found, next_is_least, none_behind}
use Rattle.immutable_trees.proofs.Reached.{below_inside}

-- ---- lists

AllByRecursion-append : {R : Type 0} (P : R → Type 0) (xs ys : List R) → AllByRecursion P xs → AllByRecursion P ys → AllByRecursion P (xs ++ ys)
AllByRecursion-append P [] ys all more = more
AllByRecursion-append P (x ∷ xs) ys all more = (all.0, AllByRecursion-append P xs ys all.1 more)

one_truth : (a b : Bool) → (a ≡ true → b ≡ true) → (b ≡ true → a ≡ true) → a ≡ b
one_truth true b there back = sym (there refl)
one_truth false true there back = back refl
one_truth false false there back = refl

listed_passes : (p : ℕ → Bool) (rows : List Inode) → IsTrue (list_all (λ (r : Inode). p r.id) rows) → (x : ℕ) → is_listed rows x ≡ true → p x ≡ true
listed_passes p [] all x is = absurd (cc is)
listed_passes p (r ∷ rs) all x is =
    let parts = and_parts (p r.id) (list_all (λ (y : Inode). p y.id) rs) all in
    elim (or_cases (r.id == x) (is_listed rs x) is) [
      | inl same ↦ ap p (sym (eqb-true r.id x same)) ∙ parts.0
      | inr later ↦ listed_passes p rs parts.1 x later
    ]

-- a name comes after the empty one
pub name_later : (name : List ℕ) → name_check name ≡ None → IsTrue (is_lt (bytes_cmp [] name))
name_later [] is = absurd (cc is)
name_later (b ∷ bs) is = refl

module _ (t : Tables) (whole : Tree) (v : IsValid t) (same : Represents t whole) (well : IsWellFormed whole) (top : ℕ) where
  -- ---- the tree

  down : (parent x : ℕ) (name : List ℕ) → is_at_or_below whole top parent ≡ true → entry_at whole parent name ≡ Some x → is_at_or_below whole top x ≡ true
  down parent x name within is = (below_shape whole well.names top).down parent x name within is

  -- only a directory has entries
  entry_folder : (parent x : ℕ) (name : List ℕ) (r : Inode) → inode_at t parent ≡ Some r → entry_at whole parent name ≡ Some x → IsTrue (is_directory r.kind)
  entry_folder parent x name r there is =
      let found = entry_found t whole same v.rows.entries parent x name is in
      let finds : IsTrue (finds_of_entry t found.0) = find_passes_all (is_entry t parent name) (finds_of_entry t) t.contents found.0 v.rows.entries found.1 in
      let number : found.0.parent ≡ parent =
      eqb-true found.0.parent parent (and_parts (found.0.parent == parent) _ (find_passes (is_entry t parent name) t.contents found.0 found.1)).0 in
      let folder : IsTrue (has_inode is_directory t parent) =
      subst (λ p. IsTrue (has_inode is_directory t p)) number (and_parts (has_inode is_directory t found.0.parent) _ (and_parts _ (has_inode any_kind t found.0.inode) finds).0).0 in
      subst (λ (row : Option Inode). IsTrue (elim row [ Some x ↦ is_directory x.kind | None ↦ false ])) there folder

  -- the inode that an entry names has a row
  entry_row : (parent x : ℕ) (name : List ℕ) → entry_at whole parent name ≡ Some x → inode_at t x ≡ None → ⊥
  entry_row parent x name is none =
      let found = entry_found t whole same v.rows.entries parent x name is in
      let finds : IsTrue (finds_of_entry t found.0) = find_passes_all (is_entry t parent name) (finds_of_entry t) t.contents found.0 v.rows.entries found.1 in
      let there : IsTrue (has_inode any_kind t found.0.inode) = (and_parts _ (has_inode any_kind t found.0.inode) finds).1 in
      let row : IsTrue (has_inode any_kind t x) = subst (λ y. IsTrue (has_inode any_kind t y)) found.2 there in
      let clash : IsTrue false = subst (λ (r : Option Inode). IsTrue (elim r [ Some x ↦ true | None ↦ false ])) none row in
      cc clash

  -- ---- the first directory

  pub come_first : (r : Inode) → inode_at t r.id ≡ Some r → top ≡ r.id → IsTrue (is_directory r.kind) → HasCome t whole top (changes.PutInode (locked_row r) ∷ []) (first_level r.id ∷ [])
  come_first r there number kind =
      let itself : is_at_or_below whole top r.id ≡ true = ap (is_at_or_below whole top) (sym number) ∙ (below_shape whole well.names top).itself in
      let folder : IsTrue (has_inode is_directory t r.id) =
      subst (λ (row : Option Inode). IsTrue (elim row [ Some x ↦ is_directory x.kind | None ↦ false ])) (sym there) kind in
      record {
        rows = r ∷ [];
        is = refl;
        there = (there, tt);
        below = and_from (is_at_or_below whole top r.id) true itself refl;
        first = or_left (r.id == top) false (eq-eqb r.id top (sym number));
        folders =
            and_from (is_directory_within t whole top r.id) true
            (and_from (has_inode is_directory t r.id) (is_at_or_below whole top r.id) folder itself) refl;
        left = λ parent x name listed is.
            or_right (is_listed (r ∷ []) x) (waits (first_level r.id ∷ []) parent name)
            (or_left ((r.id == parent) && is_lt (bytes_cmp [] name)) false
            (and_from (r.id == parent) (is_lt (bytes_cmp [] name)) (own parent listed) (name_later name (well.tree.names parent x name is))));
      }
    where
      own : (parent : ℕ) → is_listed (r ∷ []) parent ≡ true → (r.id == parent) ≡ true
      own parent is = elim (or_cases (r.id == parent) false is) [ inl same ↦ same | inr none ↦ absurd (cc none) ]

  -- ---- one step

  module _ (batch : List Change) (levels : List Level) (level : Level) (come : HasCome t whole top batch (levels ++ level ∷ [])) where
    abbrev within_all : Level → Bool
    within_all l = is_directory_within t whole top l.directory

    folders : IsTrue (list_all within_all levels) × IsTrue (within_all level)
    folders =
        let parts = and_parts (list_all within_all levels) (within_all level && true) (sym (list_all-append within_all levels (level ∷ [])) ∙ come.folders) in
        (parts.0, (and_parts (within_all level) true parts.1).0)

    folder : IsTrue (has_inode is_directory t level.directory)
    folder = (and_parts (has_inode is_directory t level.directory) (is_at_or_below whole top level.directory) folders.1).0

    within : is_at_or_below whole top level.directory ≡ true
    within = (and_parts (has_inode is_directory t level.directory) (is_at_or_below whole top level.directory) folders.1).1

    abbrev entries : List NamedEntry
    entries = named_entries t level.directory

    up : IsTrue (rises by_entry_name entries)
    up = rises-sorted_by by_entry_name nat_list_cmp_total (filter_map (with_entry_name t) (filter (λ (r : Content). r.parent == level.directory) t.contents))

    -- the row of an entry in the level's directory
    row_found : (name : List ℕ) (x : ℕ) → entry_at whole level.directory name ≡ Some x → (e : NamedEntry) × (row_at by_entry_name name entries ≡ Some e) × (e.row.inode ≡ x)
    row_found name x is = held (row_at by_entry_name name entries) refl (sym (entry_at-named_entries t whole same level.directory folder name) ∙ is)
      where
        held : (found : Option NamedEntry) → row_at by_entry_name name entries ≡ found → option_map (λ (e : NamedEntry). e.row.inode) found ≡ Some x
            → (e : NamedEntry) × (row_at by_entry_name name entries ≡ Some e) × (e.row.inode ≡ x)
        held None there one = absurd (cc one)
        held (Some e) there one =
            let number : e.row.inode ≡ x = cc one in
            (e, there, number)

    -- what waited, waits in another level or in this one
    abbrev Waits : ℕ → List ℕ → Type 0
    Waits parent name = (waits levels parent name ≡ true) ⊎ ((level.directory ≡ parent) × IsTrue (is_lt (bytes_cmp level.last name)))

    waiting : (parent : ℕ) (name : List ℕ) → waits (levels ++ level ∷ []) parent name ≡ true → Waits parent name
    waiting parent name is =
        let test : Level → Bool = λ l. (l.directory == parent) && is_lt (bytes_cmp l.last name) in
        elim (or_cases (waits levels parent name) (test level || false) (sym (list_any-append test levels (level ∷ [])) ∙ is)) [
          | inl other ↦ inl other
          | inr own ↦ elim (or_cases (test level) false own) [
            | inl this ↦
                let parts = and_parts (level.directory == parent) (is_lt (bytes_cmp level.last name)) this in
                inr (eqb-true level.directory parent parts.0, parts.1)
            | inr none ↦ absurd (cc none)
          ]
        ]

    -- no entry is left in the level
    pub come_none : slice_get (entries_listed t level.directory level.last 1) 0 ≡ None → HasCome t whole top batch levels
    come_none none = record {
      rows = come.rows;
      is = come.is;
      there = come.there;
      below = come.below;
      first = come.first;
      folders = folders.0;
      left = λ parent x name listed is.
          elim (or_cases (is_listed come.rows x) (waits (levels ++ level ∷ []) parent name) (come.left parent x name listed is)) [
            | inl here ↦ or_left (is_listed come.rows x) (waits levels parent name) here
            | inr later ↦ elim (waiting parent name later) [
              | inl other ↦ or_right (is_listed come.rows x) (waits levels parent name) other
              | inr own ↦
                  let row = row_found name x (ap (λ p. entry_at whole p name) own.0 ∙ is) in
                  absurd (none_behind level.last entries none name row.0 row.1 own.1)
            ]
          ];
    }

    -- the next one
    module _ (e : NamedEntry) (is_next : slice_get (entries_listed t level.directory level.last 1) 0 ≡ Some e) where
      own_entry : entry_at whole level.directory e.name ≡ Some e.row.inode
      own_entry =
          entry_at-named_entries t whole same level.directory folder e.name
          ∙ ap (option_map (λ (x : NamedEntry). x.row.inode)) (next_found level.last entries up e is_next)

      -- has a row
      pub come_row : inode_at t e.row.inode ≡ None → ⊥
      come_row none = entry_row level.directory e.row.inode e.name own_entry none

      pub come_some : (r : Inode) → inode_at t e.row.inode ≡ Some r
          → HasCome t whole top (batch ++ changes.PutInode (locked_row r) ∷ []) (levels ++ levels_behind level.directory e.name r)
      come_some r there = record {
        rows = come.rows ++ r ∷ [];
        is = ap (λ b. b ++ changes.PutInode (locked_row r) ∷ []) come.is ∙ sym (map-append (λ (x : Inode). changes.PutInode (locked_row x)) come.rows (r ∷ []));
        there = AllByRecursion-append (λ (x : Inode). inode_at t x.id ≡ Some x) come.rows (r ∷ []) come.there (itself, tt);
        below =
            list_all-append (λ (x : Inode). is_at_or_below whole top x.id) come.rows (r ∷ [])
            ∙ and_from (list_all (λ (x : Inode). is_at_or_below whole top x.id) come.rows) (is_at_or_below whole top r.id && true) come.below
            (and_from (is_at_or_below whole top r.id) true inside refl);
        first = listed_still top come.first;
        folders =
            list_all-append within_all levels (levels_behind level.directory e.name r)
            ∙ and_from (list_all within_all levels) (list_all within_all (levels_behind level.directory e.name r)) folders.0
            (and_from (within_all level) (list_all within_all (cond (is_directory r.kind) (first_level r.id ∷ []) [])) folders.1 (new_folder (is_directory r.kind) refl));
        left = λ parent x name listed is.
            elim (or_cases (is_listed come.rows parent) ((r.id == parent) || false) (sym (list_any-append (λ (y : Inode). y.id == parent) come.rows (r ∷ [])) ∙ listed)) [
              | inl old ↦ from_old parent x name old is
              | inr new ↦ elim (or_cases (r.id == parent) false new) [
                | inl own ↦ from_new parent x name (eqb-true r.id parent own) is
                | inr none ↦ absurd (cc none)
              ]
            ];
      }
        where
          number : e.row.inode ≡ r.id
          number = number_of t e.row.inode r there

          itself : inode_at t r.id ≡ Some r
          itself = ap (inode_at t) (sym number) ∙ there

          inside : is_at_or_below whole top r.id ≡ true
          inside = down level.directory r.id e.name within (own_entry ∙ ap Some number)

          listed_still : (x : ℕ) → is_listed come.rows x ≡ true → is_listed (come.rows ++ r ∷ []) x ≡ true
          listed_still x is = list_any-append (λ (y : Inode). y.id == x) come.rows (r ∷ []) ∙ or_left (is_listed come.rows x) ((r.id == x) || false) is

          listed_now : (x : ℕ) → r.id ≡ x → is_listed (come.rows ++ r ∷ []) x ≡ true
          listed_now x is =
              list_any-append (λ (y : Inode). y.id == x) come.rows (r ∷ [])
              ∙ or_right (is_listed come.rows x) ((r.id == x) || false) (or_left (r.id == x) false (eq-eqb r.id x is))

          new_folder : (b : Bool) → is_directory r.kind ≡ b → IsTrue (list_all within_all (cond b (first_level r.id ∷ []) []))
          new_folder true is =
              and_from (is_directory_within t whole top r.id) true
              (and_from (has_inode is_directory t r.id) (is_at_or_below whole top r.id)
              (subst (λ (row : Option Inode). IsTrue (elim row [ Some x ↦ is_directory x.kind | None ↦ false ])) (sym itself) is) inside) refl
          new_folder false is = refl

          Found : ℕ → ℕ → List ℕ → Type 0
          Found parent x name = (is_listed (come.rows ++ r ∷ []) x || waits (levels ++ levels_behind level.directory e.name r) parent name) ≡ true

          found_listed : (parent x : ℕ) (name : List ℕ) → is_listed (come.rows ++ r ∷ []) x ≡ true → Found parent x name
          found_listed parent x name is = or_left (is_listed (come.rows ++ r ∷ []) x) (waits (levels ++ levels_behind level.directory e.name r) parent name) is

          test : ℕ → List ℕ → Level → Bool
          test parent name l = (l.directory == parent) && is_lt (bytes_cmp l.last name)

          found_waiting : (parent x : ℕ) (name : List ℕ) → (waits levels parent name || waits (levels_behind level.directory e.name r) parent name) ≡ true → Found parent x name
          found_waiting parent x name is =
              or_right (is_listed (come.rows ++ r ∷ []) x) (waits (levels ++ levels_behind level.directory e.name r) parent name)
              (list_any-append (test parent name) levels (levels_behind level.directory e.name r) ∙ is)

          from_old : (parent x : ℕ) (name : List ℕ) → is_listed come.rows parent ≡ true → entry_at whole parent name ≡ Some x → Found parent x name
          from_old parent x name listed is =
              elim (or_cases (is_listed come.rows x) (waits (levels ++ level ∷ []) parent name) (come.left parent x name listed is)) [
                | inl here ↦ found_listed parent x name (listed_still x here)
                | inr later ↦ elim (waiting parent name later) [
                  | inl other ↦ found_waiting parent x name (or_left (waits levels parent name) (waits (levels_behind level.directory e.name r) parent name) other)
                  | inr own ↦
                      let here : entry_at whole level.directory name ≡ Some x = ap (λ p. entry_at whole p name) own.0 ∙ is in
                      let row = row_found name x here in
                      elim (next_is_least level.last entries up e is_next name row.0 row.1 own.1) [
                        | inl same_name ↦
                            let one : Some e.row.inode ≡ Some x = sym own_entry ∙ ap (entry_at whole level.directory) (sym same_name) ∙ here in
                            let inode : e.row.inode ≡ x = cc one in
                            found_listed parent x name (listed_now x (sym number ∙ inode))
                        | inr after ↦
                            found_waiting parent x name
                            (or_right (waits levels parent name) (waits (levels_behind level.directory e.name r) parent name)
                            (or_left ((level.directory == parent) && is_lt (bytes_cmp e.name name)) (waits (cond (is_directory r.kind) (first_level r.id ∷ []) []) parent name)
                            (and_from (level.directory == parent) (is_lt (bytes_cmp e.name name)) (eq-eqb level.directory parent own.0) after)))
                      ]
                ]
              ]

          from_new : (parent x : ℕ) (name : List ℕ) → r.id ≡ parent → entry_at whole parent name ≡ Some x → Found parent x name
          from_new parent x name own is =
              found_waiting parent x name
              (or_right (waits levels parent name) (waits (levels_behind level.directory e.name r) parent name)
              (or_right ((level.directory == parent) && is_lt (bytes_cmp e.name name)) (waits (cond (is_directory r.kind) (first_level r.id ∷ []) []) parent name)
              (ap (λ b. waits (cond b (first_level r.id ∷ []) []) parent name) (entry_folder r.id x name r itself (ap (λ p. entry_at whole p name) own ∙ is))
              ∙ or_left ((r.id == parent) && is_lt (bytes_cmp [] name)) false
              (and_from (r.id == parent) (is_lt (bytes_cmp [] name)) (eq-eqb r.id parent own) (name_later name (well.tree.names parent x name is))))))

  -- ---- the end

  pub come_all : (batch : List Change) → HasCome t whole top batch [] → IsLockOf t whole top (Some batch)
  come_all batch come = (
    come.rows,
    come.is,
    record {
      there = come.there;
      below = λ x.
          one_truth (is_listed come.rows x) (is_at_or_below whole top x) (listed_passes (is_at_or_below whole top) come.rows come.below x)
          (below_inside whole well.names (is_listed come.rows)
          (λ parent y name listed is. elim (or_cases (is_listed come.rows y) false (come.left parent y name listed is)) [ inl here ↦ here | inr none ↦ absurd (cc none) ])
          top come.first x);
    },
  )
