-- What the walk of a copy has made, before all entries and after each visit.
use Rattle.std.proofs.Common.{◌≡◌, ◌≤◌, ◌<◌, ◌⊎◌, inl, inr, ℕ, ◌+◌, ◌^◌, List, [], ◌∷◌, ◌++◌, length, Bool, true, false, cond, Option, None, Some, refl, sym, ap, ◌∙◌, subst, arith, eq-eqb, eqb-true, lt-ltb, length-append}
use Rattle.std.proofs.lemmas.Bool.{both_ways, or_cases}
use Rattle.std.proofs.lemmas.Bool.Decides.{nat_tests}
use Rattle.std.proofs.lemmas.List.{append-nil}
use Rattle.std.specs.BTreeMap.{get}
use Rattle.std.specs.Ordering.{nat_cmp}
use Rattle.std.specs.Prelude.{IsTrue, ◌&&◌, ◌||◌, ◌==◌, find, is_some, nat_le, nat_lt, not, option_and_then, option_map, unwrap_or}
use Rattle.s3_base.specs.Numbers.{root}
use Rattle.s3_base.specs.declared.node_kind.Kind.TheVariants as kinds
use Rattle.plain_tree.specs.Below.{is_among}
use Rattle.plain_tree.specs.Subtrees.{copy_number, place_of}
use Rattle.plain_tree.specs.Tree.{Tree}
use Rattle.s3_rows.specs.declared.change.Change.{Change}
use Rattle.s3_rows.specs.declared.lists.NamedEntry.{NamedEntry}
use Rattle.s3_rows.specs.Batches.{tables_after}
use Rattle.s3_rows.specs.Keyed.{is_past}
use Rattle.s3_rows.specs.Rows.{Inode, Parameters}
use Rattle.s3_rows.specs.Selections.{by_entry_name, inode_at, named_entries}
use Rattle.s3_rows.specs.Tables.{Tables}
use Rattle.s3_rows.specs.Validity.{has_inode, is_directory}
use Rattle.tree_laws.proofs.Copy.Nodes.{place_within}
use Rattle.tree_laws.proofs.Walk.Passed.{all_pass}
use Rattle.tree_rows.specs.Shapes.{TreeShape}
use Rattle.tree_rows.proofs.Whole.{number_of}
use Rattle.ref_counts.specs.Names.{StaysUnique, raised}
use Rattle.row_steps.proofs.Place.{kind_there}
use Rattle.tree_copy.specs.declared.entries.CopySpot.{CopySpot}
use Rattle.tree_copy.specs.declared.progress.Copied.{Copied}
use Rattle.tree_copy.specs.declared.walk.Level.{Level}
use Rattle.tree_copy.specs.CopiedNames.{child_may_come, entry_may_come, may_draw, may_link}
use Rattle.tree_copy.specs.CopiedRows.{Visit, child_copied, child_fits, names_copied, names_fit, node_fits, source_copied, source_fits, visit_copied, visit_fits}
use Rattle.tree_copy.specs.CopyLevels.{HasCome, IsLevel, visit_of}
use Rattle.tree_copy.specs.CopyPlans.{IsCopyable, copy_checks}
use Rattle.tree_copy.specs.CopySteps.{inodes_seen}
use Rattle.tree_copy.specs.CopyWalks.{HasCopied, IsVisited, is_id, is_kept, is_met_once, known_spot, source_batch, spot_of, visit_batch}
use Rattle.tree_copy.proofs.CopiedNames.{TakesCopy, above, number, way_so_far}
use Rattle.tree_copy.proofs.CopyCome.{all_seen-last}
use Rattle.tree_copy.proofs.FirstVisits.{directory_is_new, single_is_new}
use Rattle.tree_copy.proofs.GrownBatches.{names_copied-last, names_fit-last}
use Rattle.tree_copy.proofs.SameEntries.{among_first, among_last, place_last, place_none, place_stays}
use Rattle.tree_copy.proofs.Stands.{next_is}
use Rattle.tree_copy.proofs.Visits.{IsOnTheWay}

-- ---- tests

and_true : (b : Bool) → (b && true) ≡ b
and_true true = refl
and_true false = refl

pub first_tests : (a b c : Bool) → c ≡ a → (a && b) ≡ ((b && true) && c)
first_tests true b c same = sym (ap (λ x. (b && true) && x) same ∙ and_true (b && true) ∙ and_true b)
first_tests false b c same = sym (ap (λ x. (b && true) && x) same ∙ none (b && true))
  where
    none : (x : Bool) → (x && false) ≡ false
    none true = refl
    none false = refl

-- at a visit of a new node, and at a further one
new_tests : (d c l n r : Bool) → d ≡ true → c ≡ l → (d && c && ((l && n) && r)) ≡ ((true && (n && r)) && l)
new_tests true true true n r one same = sym (and_true (n && r))
new_tests true true false n r one same = absurd (cc same)
new_tests true false true n r one same = absurd (cc same)
new_tests true false false n r one same = sym (none (n && r))
  where
    none : (x : Bool) → (x && false) ≡ false
    none true = refl
    none false = refl
new_tests false c l n r one same = absurd (cc one)

further_tests : (d c m r l : Bool) → d ≡ true → c ≡ true → m ≡ true → l ≡ true → (d && c && (m && r)) ≡ ((true && (true && r)) && l)
further_tests true true true r true a b e f = sym (and_true r)
further_tests true true true r false a b e f = absurd (cc f)
further_tests true true false r l a b e f = absurd (cc e)
further_tests true false m r l a b e f = absurd (cc b)
further_tests false c m r l a b e f = absurd (cc a)

is_number : (n : ℕ) → 0 < n → is_id n ≡ nat_lt n (2 ^ 62)
is_number n some = ap (λ b. b && nat_lt n (2 ^ 62)) (lt-ltb 0 n some)

-- ---- before all entries

pub next_number : (told : Tables) (whole : Tree) (source parent : ℕ) (name : List ℕ) (top directory : Inode) (p : Parameters)
    → IsCopyable told whole source parent name top directory p → p.next_inode ≡ whole.next_inode
next_number told whole source parent name top directory p k =
    sym (ap (λ (x : Option Parameters). unwrap_or (option_map (λ y. y.next_inode) x) 0) k.made) ∙ ap (λ (x : TreeShape). x.next_inode) k.same

module _ (told : Tables) (whole : Tree) (source parent now : ℕ) (name : List ℕ) (top directory : Inode) (p : Parameters)
    (k : IsCopyable told whole source parent name top directory p) where
  pub takes : TakesCopy whole parent name
  takes =
      let all = all_pass (copy_checks whole source parent name) k.passes in
      record { there = all.1.1.1.0; folder = all.1.1.1.1.0; free = all.1.1.1.1.1.1.1.0 }

  pub top_kind : top.kind ≡ kinds.Directory
  top_kind =
      let all = all_pass (copy_checks whole source parent name) k.passes in
      kind_there told whole k.valid k.same source top k.source_found all.1.0 all.1.1.0

  pub top_id : source ≡ top.id
  top_id = number_of told source top k.source_found

  pub top_folder : IsTrue (has_inode is_directory told top.id)
  top_folder =
      ap (λ (row : Option Inode). elim row [ Some y ↦ is_directory y.kind | None ↦ false ]) (ap (inode_at told) (sym top_id) ∙ k.source_found) ∙ ap is_directory top_kind

  p_next : p.next_inode ≡ whole.next_inode
  p_next = next_number told whole source parent name top directory p k

  abbrev next : ℕ
  next = whole.next_inode

  some_next : 0 < whole.next_inode
  some_next = let less : root < whole.next_inode = above told whole k.valid k.unique k.same k.well source parent now name takes directory top k.parent_found k.source_found in omega (arith, less)

  pub made_first : (c : Copied) → c.names ≡ source_batch told p.next_inode now top directory name → ((cs : List Change) → c.names ≡ Some cs → StaysUnique cs told)
      → c.seen.items ≡ top.id ∷ [] → ((x : ℕ) → get nat_cmp c.numbers x ≡ None) → HasCopied told whole.next_inode now top directory name [] c
  made_first c names unique seen numbers =
      let draws : nat_le (whole.next_inode + 1) (2 ^ 62) ≡ may_draw told.params =
      ap (λ n. nat_le (n + 1) (2 ^ 62)) (sym p_next) ∙ less p.next_inode ∙ sym (ap may_draw k.made) in
      let batch : source_batch told p.next_inode now top directory name ≡ source_batch told whole.next_inode now top directory name =
      ap (λ n. source_batch told n now top directory name) p_next in
      let tests = first_tests (may_draw told.params) (source_fits told whole.next_inode now top name) (nat_le (whole.next_inode + 1) (2 ^ 62)) draws in
      let fit : Bool = (source_fits told whole.next_inode now top name && true) && nat_le (whole.next_inode + 1) (2 ^ 62) in
      record {
        seen = seen;
        names =
            names ∙ batch ∙ ap (λ b. cond b (Some (source_copied told whole.next_inode now top directory name)) None) tests
            ∙ ap (λ (cs : List Change). cond fit (Some cs) None) (sym (append-nil (source_copied told whole.next_inode now top directory name)));
        unique = unique;
        known = λ x copy is. absurd (none x copy is);
        kept = λ x r there once among. absurd (both_ways (is_met_once r) once (met x r there among));
      }
    where
      less : (n : ℕ) → nat_le (n + 1) (2 ^ 62) ≡ nat_lt n (2 ^ 62)
      less n = grind (arith, nat_tests)

      none : (x copy : ℕ) → get nat_cmp c.numbers x ≡ Some copy → ⊥
      none x copy is =
          let clash : None ≡ Some copy = sym (numbers x) ∙ is in
          cc clash

      met : (x : ℕ) (r : Inode) → inode_at told x ≡ Some r → is_among (inodes_seen top []) x ≡ true → is_met_once r ≡ true
      met x r there among =
          elim (or_cases (top.id == x) false among) [
            | inl here ↦
                let both : Some r ≡ Some top = sym there ∙ ap (inode_at told) (sym (eqb-true top.id x here)) ∙ ap (inode_at told) (sym top_id) ∙ k.source_found in
                let same : r ≡ top = cc both in
                ap (λ b. b || r.refcount == 1) (ap (λ (y : Inode). is_directory y.kind) same ∙ ap is_directory top_kind)
            | inr never ↦ absurd (cc never)
          ]

  -- ---- a visit

  module _ (visits : List Visit) (l : Level) (levels : List Level) (come : HasCome told whole top.id visits (l ∷ levels)) (e : NamedEntry)
      (behind : find (is_past by_entry_name l.last) (named_entries told l.directory) ≡ Some e) (r : Inode) (there : inode_at told e.row.inode ≡ Some r)
      (c : Copied) (made : HasCopied told whole.next_inode now top directory name visits c) where
    abbrev seen : List ℕ
    seen = inodes_seen top visits

    abbrev spot : CopySpot
    spot = spot_of c p.next_inode l r.id now

    abbrev v : Visit
    v = visit_of l e r

    level : IsLevel told whole.next_inode (inodes_seen top visits) visits l
    level = come.levels_are.0

    row_id : e.row.inode ≡ r.id
    row_id = number_of told e.row.inode r there

    pub row_there : inode_at told r.id ≡ Some r
    row_there = ap (inode_at told) (sym row_id) ∙ there

    -- what was not noted was not seen
    not_seen : get nat_cmp c.numbers r.id ≡ None → is_among (inodes_seen top visits) r.id ≡ false
    not_seen none = by_once (is_directory r.kind) refl (r.refcount == 1) refl
      where
        by_once : (a : Bool) → is_directory r.kind ≡ a → (b : Bool) → (r.refcount == 1) ≡ b → is_among (inodes_seen top visits) r.id ≡ false
        by_once true folder b one = directory_is_new told whole k.valid k.same k.well top.id top_folder visits l levels come e behind r there folder
        by_once false folder true one = single_is_new told whole k.valid k.same k.well top.id top_folder visits l levels come e behind r there (eqb-true r.refcount 1 one)
        by_once false folder false one = by_seen (is_among (inodes_seen top visits) r.id) refl
          where
            by_seen : (s : Bool) → is_among (inodes_seen top visits) r.id ≡ s → s ≡ false
            by_seen false is = refl
            by_seen true is =
                let some : IsTrue (is_some (get nat_cmp c.numbers r.id)) = made.kept r.id r row_there (ap (λ b. b || r.refcount == 1) folder ∙ one) is in
                absurd (cc (sym (ap is_some none) ∙ some))

    pub record IsSpot (s : CopySpot) : Type 0 where
      pub again : s.again ≡ is_among (inodes_seen top visits) r.id
      pub copy : s.copy ≡ copy_number whole.next_inode (inodes_seen top visits) r.id
      pub directory_is : s.directory ≡ copy_number whole.next_inode (inodes_seen top visits) l.directory
      pub now_is : s.now ≡ now

    pub is_spot : IsSpot (spot_of c p.next_inode l r.id now)
    is_spot = by_number (get nat_cmp c.numbers r.id) refl
      where
        by_number : (found : Option ℕ) → get nat_cmp c.numbers r.id ≡ found → IsSpot (known_spot found l.copy (p.next_inode + length c.seen.items) now)
        by_number (Some copy) is =
            let known = made.known r.id copy is in
            record { again = sym known.0; copy = known.1; directory_is = level.copy; now_is = refl }
        by_number None is =
            let new = not_seen is in
            record {
              again = sym new;
              copy = (λ i. p_next i + length (made.seen i)) ∙ sym (ap (λ n. whole.next_inode + n) (place_none (inodes_seen top visits) r.id new));
              directory_is = level.copy;
              now_is = refl;
            }

    abbrev again : Bool
    again = is_among (inodes_seen top visits) r.id

    abbrev copy : ℕ
    copy = copy_number whole.next_inode (inodes_seen top visits) r.id

    spot_is : spot_of c p.next_inode l r.id now
        ≡ record { directory = copy_number whole.next_inode (inodes_seen top visits) l.directory; copy = copy_number whole.next_inode (inodes_seen top visits) r.id; again = is_among (inodes_seen top visits) r.id; now = now }
    spot_is = λ i. record { directory = is_spot.directory_is i; copy = is_spot.copy i; again = is_spot.again i; now = is_spot.now_is i }

    -- ---- the inodes seen then

    abbrev more : List Visit
    more = visits ++ visit_of l e r ∷ []

    seen_more : inodes_seen top (visits ++ visit_of l e r ∷ []) ≡ cond (is_among (inodes_seen top visits) r.id) (inodes_seen top visits) (inodes_seen top visits ++ r.id ∷ [])
    seen_more = all_seen-last (top.id ∷ []) visits (visit_of l e r)

    stays : (x : ℕ) → is_among (inodes_seen top visits) x ≡ true
        → (is_among (inodes_seen top (visits ++ visit_of l e r ∷ [])) x ≡ true)
        × (copy_number whole.next_inode (inodes_seen top (visits ++ visit_of l e r ∷ [])) x ≡ copy_number whole.next_inode (inodes_seen top visits) x)
    stays x among = subst (λ (s : List ℕ). (is_among s x ≡ true) × (copy_number whole.next_inode s x ≡ copy_number whole.next_inode (inodes_seen top visits) x)) (sym seen_more) (by_case again)
      where
        by_case : (b : Bool) → (is_among (cond b (inodes_seen top visits) (inodes_seen top visits ++ r.id ∷ [])) x ≡ true)
            × (copy_number whole.next_inode (cond b (inodes_seen top visits) (inodes_seen top visits ++ r.id ∷ [])) x ≡ copy_number whole.next_inode (inodes_seen top visits) x)
        by_case true = (among, refl)
        by_case false = (among_first (inodes_seen top visits) (r.id ∷ []) x among, ap (λ n. whole.next_inode + n) (place_stays (inodes_seen top visits) (r.id ∷ []) x among))

    parts_of : (x : ℕ) → is_among (inodes_seen top (visits ++ visit_of l e r ∷ [])) x ≡ true
        → (is_among (inodes_seen top visits) x ≡ true) ⊎ ((is_among (inodes_seen top visits) r.id ≡ false) × (r.id ≡ x))
    parts_of x among = by_case again refl (ap (λ (s : List ℕ). is_among s x) (sym seen_more) ∙ among)
      where
        by_case : (b : Bool) → is_among (inodes_seen top visits) r.id ≡ b → is_among (cond b (inodes_seen top visits) (inodes_seen top visits ++ r.id ∷ [])) x ≡ true
            → (is_among (inodes_seen top visits) x ≡ true) ⊎ ((is_among (inodes_seen top visits) r.id ≡ false) × (r.id ≡ x))
        by_case true is own = inl own
        by_case false is own =
            elim (or_cases (is_among (inodes_seen top visits) x) (r.id == x) (sym (among_last (inodes_seen top visits) r.id x) ∙ own)) [
              | inl old ↦ inl old
              | inr here ↦ inr (is, eqb-true r.id x here)
            ]

    -- the node itself, at its first visit
    itself_new : is_among (inodes_seen top visits) r.id ≡ false
        → (is_among (inodes_seen top (visits ++ visit_of l e r ∷ [])) r.id ≡ true)
        × (copy_number whole.next_inode (inodes_seen top (visits ++ visit_of l e r ∷ [])) r.id ≡ copy_number whole.next_inode (inodes_seen top visits) r.id)
    itself_new new =
        let now_seen : inodes_seen top (visits ++ visit_of l e r ∷ []) ≡ inodes_seen top visits ++ r.id ∷ [] =
        seen_more ∙ ap (λ b. cond b (inodes_seen top visits) (inodes_seen top visits ++ r.id ∷ [])) new in (
          ap (λ (s : List ℕ). is_among s r.id) now_seen ∙ among_last (inodes_seen top visits) r.id r.id ∙ ap (λ b. is_among (inodes_seen top visits) r.id || b) (eq-eqb r.id r.id refl) ∙ or_all (is_among (inodes_seen top visits) r.id),
          ap (λ (s : List ℕ). copy_number whole.next_inode s r.id) now_seen
              ∙ ap (λ n. whole.next_inode + n) (place_last (inodes_seen top visits) r.id new ∙ sym (place_none (inodes_seen top visits) r.id new)),
        )
      where
        or_all : (b : Bool) → (b || true) ≡ true
        or_all true = refl
        or_all false = refl

    -- ---- the batch then

    abbrev names : List Change
    names = names_copied told whole.next_inode now top directory name visits

    abbrev u : Tables
    u = tables_after names told

    abbrev room : List Visit → Bool
    room vs = nat_le (whole.next_inode + length (inodes_seen top vs)) (2 ^ 62)

    longer : length (inodes_seen top visits) ≤ length (inodes_seen top (visits ++ visit_of l e r ∷ []))
    longer = subst (λ (s : List ℕ). length (inodes_seen top visits) ≤ length s) (sym seen_more) (by_case again)
      where
        by_case : (b : Bool) → length (inodes_seen top visits) ≤ length (cond b (inodes_seen top visits) (inodes_seen top visits ++ r.id ∷ []))
        by_case true = omega arith
        by_case false = omega (arith, length-append (inodes_seen top visits) (r.id ∷ []))

    no_room : room visits ≡ false → room (visits ++ visit_of l e r ∷ []) ≡ false
    no_room is = grind (arith, nat_tests, is, longer)

    on_the_way : IsTrue (names_fit told whole.next_inode now top directory name visits) → IsOnTheWay told whole parent now name (inodes_seen top visits) visits u
    on_the_way fits = way_so_far told whole k.valid k.unique k.same k.well source parent now name takes directory top k.parent_found k.source_found visits come.each fits

    draws : IsTrue (names_fit told whole.next_inode now top directory name visits) → may_draw u.params ≡ nat_lt (whole.next_inode + length (inodes_seen top visits)) (2 ^ 62)
    draws fits =
        let way = on_the_way fits in
        let number_is : way.stands.p.next_inode ≡ whole.next_inode + length (inodes_seen top visits) = next_is told u way.tree [] way.stands ∙ way.partial.next_inode in
        ap may_draw way.stands.owes.made ∙ ap (λ n. nat_lt n (2 ^ 62)) number_is

    -- the last visit fits as the code tests it
    module _ (links : IsTrue (names_fit told whole.next_inode now top directory name visits) → is_among (inodes_seen top visits) r.id ≡ true
        → may_link (inode_at (tables_after (names_copied told whole.next_inode now top directory name visits) told) (copy_number whole.next_inode (inodes_seen top visits) r.id)) ≡ true) where
      within : (x : ℕ) → is_among (inodes_seen top visits) x ≡ true → room visits ≡ true → is_id (copy_number whole.next_inode (inodes_seen top visits) x) ≡ true
      within x among fits =
          let less : place_of x (inodes_seen top visits) < length (inodes_seen top visits) = place_within (inodes_seen top visits) x among in
          is_number (copy_number whole.next_inode (inodes_seen top visits) x) (omega (arith, some_next)) ∙ below (place_of x (inodes_seen top visits)) less
        where
          below : (n : ℕ) → n < length (inodes_seen top visits) → nat_lt (whole.next_inode + n) (2 ^ 62) ≡ true
          below n less = grind (arith, nat_tests, fits, less)

      abbrev rest : Bool → Bool
      rest b = is_some (raised (tables_after (child_copied b told copy now r u) u) e.name)

      tests : IsTrue (names_fit told whole.next_inode now top directory name visits) → room visits ≡ true
          → (is_id (copy_number whole.next_inode (inodes_seen top visits) l.directory) && is_id (copy_number whole.next_inode (inodes_seen top visits) r.id)
          && entry_may_come (is_among (inodes_seen top visits) r.id) told (copy_number whole.next_inode (inodes_seen top visits) r.id) now r e.name u)
          ≡ ((true && visit_fits told whole.next_inode now (inodes_seen top visits) (visit_of l e r) u) && room (visits ++ visit_of l e r ∷ []))
      tests fits roomy = by_case again refl
        where
          dir : is_id (copy_number whole.next_inode (inodes_seen top visits) l.directory) ≡ true
          dir = within l.directory level.seen_before roomy

          by_case : (b : Bool) → is_among (inodes_seen top visits) r.id ≡ b
              → (is_id (copy_number whole.next_inode (inodes_seen top visits) l.directory) && is_id copy && (child_may_come b told copy now r u && rest b))
              ≡ ((true && (child_fits b told copy now r u && rest b)) && room (visits ++ visit_of l e r ∷ []))
          by_case true among =
              let same : inodes_seen top (visits ++ visit_of l e r ∷ []) ≡ inodes_seen top visits = seen_more ∙ ap (λ b. cond b (inodes_seen top visits) (inodes_seen top visits ++ r.id ∷ [])) among in
              further_tests (is_id (copy_number whole.next_inode (inodes_seen top visits) l.directory)) (is_id copy) (may_link (inode_at u copy)) (rest true) (room (visits ++ visit_of l e r ∷ []))
              dir (within r.id among roomy) (links fits among) (ap (λ (s : List ℕ). nat_le (whole.next_inode + length s) (2 ^ 62)) same ∙ roomy)
          by_case false new =
              let same : inodes_seen top (visits ++ visit_of l e r ∷ []) ≡ inodes_seen top visits ++ r.id ∷ [] = seen_more ∙ ap (λ b. cond b (inodes_seen top visits) (inodes_seen top visits ++ r.id ∷ [])) new in
              let place : place_of r.id (inodes_seen top visits) ≡ length (inodes_seen top visits) = place_none (inodes_seen top visits) r.id new in
              let number_is : is_id copy ≡ nat_lt (whole.next_inode + length (inodes_seen top visits)) (2 ^ 62) =
              is_number copy (omega (arith, some_next)) ∙ ap (λ n. nat_lt (whole.next_inode + n) (2 ^ 62)) place in
              let roomy_then : nat_lt (whole.next_inode + length (inodes_seen top visits)) (2 ^ 62) ≡ room (visits ++ visit_of l e r ∷ []) =
              sym (ap (λ (s : List ℕ). nat_le (whole.next_inode + length s) (2 ^ 62)) same ∙ one_more) in
              ap (λ x. is_id (copy_number whole.next_inode (inodes_seen top visits) l.directory) && is_id copy && ((x && node_fits told copy now r u) && rest false)) (draws fits ∙ roomy_then)
              ∙ new_tests (is_id (copy_number whole.next_inode (inodes_seen top visits) l.directory)) (is_id copy) (room (visits ++ visit_of l e r ∷ [])) (node_fits told copy now r u) (rest false)
              dir (number_is ∙ roomy_then)
            where
              one_more : nat_le (whole.next_inode + length (inodes_seen top visits ++ r.id ∷ [])) (2 ^ 62) ≡ nat_lt (whole.next_inode + length (inodes_seen top visits)) (2 ^ 62)
              one_more =
                  let added : length (inodes_seen top visits ++ r.id ∷ []) ≡ length (inodes_seen top visits) + 1 = length-append (inodes_seen top visits) (r.id ∷ []) in
                  ap (λ n. nat_le (whole.next_inode + n) (2 ^ 62)) added ∙ less (length (inodes_seen top visits))
                where
                  less : (n : ℕ) → nat_le (whole.next_inode + (n + 1)) (2 ^ 62) ≡ nat_lt (whole.next_inode + n) (2 ^ 62)
                  less n = grind (arith, nat_tests)

      abbrev fit : List Visit → Bool
      fit vs = names_fit told whole.next_inode now top directory name vs && nat_le (whole.next_inode + length (inodes_seen top vs)) (2 ^ 62)

      abbrev at : CopySpot
      at = record { directory = copy_number whole.next_inode (inodes_seen top visits) l.directory; copy = copy; again = again; now = now }

      abbrev later : List Change
      later = names_copied told whole.next_inode now top directory name (visits ++ visit_of l e r ∷ [])

      names_more : option_and_then (visit_batch (spot_of c p.next_inode l r.id now) r e.name told) c.names
          ≡ cond (fit (visits ++ visit_of l e r ∷ [])) (Some (names_copied told whole.next_inode now top directory name (visits ++ visit_of l e r ∷ []))) None
      names_more =
          ap (λ (s : CopySpot). option_and_then (visit_batch s r e.name told) c.names) spot_is
          ∙ ap (option_and_then (visit_batch at r e.name told)) made.names
          ∙ by_case (names_fit told whole.next_inode now top directory name visits) refl (room visits) refl
        where
          last_fit : (b : Bool) → names_fit told whole.next_inode now top directory name visits ≡ b
              → fit (visits ++ visit_of l e r ∷ []) ≡ ((b && visit_fits told whole.next_inode now (inodes_seen top visits) (visit_of l e r) u) && room (visits ++ visit_of l e r ∷ []))
          last_fit b is =
              ap (λ x. x && room (visits ++ visit_of l e r ∷ []))
              (names_fit-last told whole.next_inode now top directory name visits (visit_of l e r)
              ∙ ap (λ x. x && visit_fits told whole.next_inode now (inodes_seen top visits) (visit_of l e r) u) is)

          none : (x : Bool) → (x && false) ≡ false
          none true = refl
          none false = refl

          by_case : (b : Bool) → names_fit told whole.next_inode now top directory name visits ≡ b → (s : Bool) → room visits ≡ s
              → option_and_then (visit_batch at r e.name told) (cond (b && s) (Some names) None) ≡ cond (fit (visits ++ visit_of l e r ∷ [])) (Some later) None
          by_case false is s own = sym (ap (λ x. cond x (Some later) None) (last_fit false is))
          by_case true is false own =
              sym (ap (λ x. cond x (Some later) None)
              (ap (λ x. names_fit told whole.next_inode now top directory name (visits ++ visit_of l e r ∷ []) && x) (no_room own)
              ∙ none (names_fit told whole.next_inode now top directory name (visits ++ visit_of l e r ∷ []))))
          by_case true is true own =
              ap (λ x. cond x (Some (names ++ visit_copied told whole.next_inode now (inodes_seen top visits) (visit_of l e r) u)) None) (tests is own ∙ sym (last_fit true is))
              ∙ ap (λ (cs : List Change). cond (fit (visits ++ visit_of l e r ∷ [])) (Some cs) None) (sym (names_copied-last told whole.next_inode now top directory name visits (visit_of l e r)))

      pub made_more : (after : Copied) → IsVisited told (spot_of c p.next_inode l r.id now) r e.name c after
          → HasCopied told whole.next_inode now top directory name (visits ++ visit_of l e r ∷ []) after
      made_more after is = record {
        seen =
            is.seen ∙ (λ i. cond (is_spot.again i) (made.seen i) (made.seen i ++ r.id ∷ [])) ∙ sym seen_more;
        names = is.names ∙ names_more;
        unique = is.unique;
        known = λ x number found. known_more x number (is_kept spot r && r.id == x) refl (sym (is.numbers x) ∙ found);
        kept = λ x row own once among. kept_more x row own once (parts_of x among);
      }
        where
          kept_is : (x : ℕ) → (is_kept spot r && r.id == x) ≡ true → (is_among (inodes_seen top visits) r.id ≡ false) × (r.id ≡ x)
          kept_is x is = by_again spot.again refl (is_met_once r) refl is
            where
              by_again : (b : Bool) → spot.again ≡ b → (m : Bool) → is_met_once r ≡ m → ((not b && not m) && r.id == x) ≡ true
                  → (is_among (inodes_seen top visits) r.id ≡ false) × (r.id ≡ x)
              by_again true a m o none = absurd (cc none)
              by_again false a true o none = absurd (cc none)
              by_again false a false o own = (sym is_spot.again ∙ a, eqb-true r.id x own)

          known_more : (x number : ℕ) → (b : Bool) → (is_kept spot r && r.id == x) ≡ b → cond b (Some spot.copy) (get nat_cmp c.numbers x) ≡ Some number
              → (is_among (inodes_seen top (visits ++ visit_of l e r ∷ [])) x ≡ true) × (number ≡ copy_number whole.next_inode (inodes_seen top (visits ++ visit_of l e r ∷ [])) x)
          known_more x number true own found =
              let parts = kept_is x own in
              let here = itself_new parts.0 in
              let same : spot.copy ≡ number = cc found in
              subst (λ y. (is_among (inodes_seen top (visits ++ visit_of l e r ∷ [])) y ≡ true) × (number ≡ copy_number whole.next_inode (inodes_seen top (visits ++ visit_of l e r ∷ [])) y)) parts.1
              (here.0, sym same ∙ is_spot.copy ∙ sym here.1)
          known_more x number false own found =
              let old = made.known x number found in
              let still = stays x old.0 in
              (still.0, old.1 ∙ sym still.1)

          kept_more : (x : ℕ) (row : Inode) → inode_at told x ≡ Some row → is_met_once row ≡ false
              → (is_among (inodes_seen top visits) x ≡ true) ⊎ ((is_among (inodes_seen top visits) r.id ≡ false) × (r.id ≡ x)) → IsTrue (is_some (get nat_cmp after.numbers x))
          kept_more x row own once (inl old) =
              subst (λ (found : Option ℕ). IsTrue (is_some found)) (sym (is.numbers x)) (either (is_kept spot r && r.id == x) (made.kept x row own once old))
            where
              either : (b : Bool) → IsTrue (is_some (get nat_cmp c.numbers x)) → IsTrue (is_some (cond b (Some spot.copy) (get nat_cmp c.numbers x)))
              either true some = refl
              either false some = some
          kept_more x row own once (inr new) =
              let both : Some r ≡ Some row = sym row_there ∙ ap (inode_at told) new.1 ∙ own in
              let same : r ≡ row = cc both in
              let test : (is_kept spot r && r.id == x) ≡ true =
              (λ i. (not ((is_spot.again ∙ new.0) i) && not ((ap is_met_once same ∙ once) i)) && (eq-eqb r.id x new.1) i) in
              ap is_some (is.numbers x ∙ ap (λ b. cond b (Some spot.copy) (get nat_cmp c.numbers x)) test)
