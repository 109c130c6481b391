-- What becomes of the directories that a walk is in, where it goes on, and where entries go.
use Rattle.std.proofs.Common.{◌≡◌, inl, inr, ℕ, List, [], ◌∷◌, Bool, true, false, None, Some, refl, sym, ap, ◌∙◌, subst, eqb-true, eq-eqb, ne_eqb}
use Rattle.std.proofs.lemmas.Bool.{both_ways, or_from, or_parts}
use Rattle.std.proofs.lemmas.Cmp.{nat_list_cmp_total}
use Rattle.std.specs.Prelude.{IsTrue, ◌==◌, filter, is_some, not}
use Rattle.std.specs.List.{filter_map, list_all, slice_get}
use Rattle.std.specs.Ordering.{is_lt}
use Rattle.plain_tree.specs.Below.{is_at_or_below}
use Rattle.plain_tree.specs.Entries as tree
use Rattle.plain_tree.specs.Entries.{is_folder}
use Rattle.plain_tree.specs.Tree.{Tree, node_at}
use Rattle.plain_tree.specs.WellFormed.{IsWellFormed}
use Rattle.s3_rows.specs.declared.lists.NamedEntry.{NamedEntry}
use Rattle.s3_rows.specs.Keyed.{rises}
use Rattle.s3_rows.specs.Rows.{Content}
use Rattle.s3_rows.specs.Selections.{by_entry_name, bytes_cmp, entries_listed, entry_at, inode_at, named_entries, with_entry_name}
use Rattle.s3_rows.specs.Tables.{Tables, by_entry}
use Rattle.s3_rows.specs.Validity.{IsValid}
use Rattle.row_lemmas.proofs.Keyed.RowAt.{list_all_from_row_at}
use Rattle.row_lemmas.proofs.Keyed.Sorted.{rises-sorted_by}
use Rattle.row_lemmas.proofs.Tests.{pair_parts, find_passes}
use Rattle.row_lemmas.proofs.Tables.{pair_cmp_total}
use Rattle.tree_laws.proofs.Node.Keys.{cases_name}
use Rattle.tree_laws.proofs.Node.Kind.{folder_kind}
use Rattle.tree_laws.proofs.Shape.Below.{below_shape}
use Rattle.tree_laws.proofs.Shape.Definition.{grown_of}
use Rattle.tree_laws.proofs.Shape.Gain.{IsBelow, no_round}
use Rattle.tree_laws.proofs.Shape.Tree.{shape_of}
use Rattle.tree_laws.proofs.Shape.Words.{Grown, NoneGoes}
use Rattle.tree_rows.specs.Shapes.{Represents}
use Rattle.immutable_trees.specs.declared.uproot.Branch.{Branch}
use Rattle.immutable_trees.specs.Branches.{AreAbove, AreBranches, HasGone, Holds, IsBranch, IsThere, below_entry, is_in, moved, named_at}
use Rattle.immutable_trees.proofs.Come.{name_later}
use Rattle.immutable_trees.proofs.ListedRows.{IsNamed, goes, later_trans, listed, name_in_tree, named_is, next_later, not_later_itself, one_named, stays_gone, stays_there}
use Rattle.immutable_trees.proofs.NextNames.{next_found, next_is_least, none_behind}
use Rattle.immutable_trees.proofs.TakenRest.{Leaves}

-- every directory of the tables has some entry to come
abbrev pub HasAll : Tables → Tree → ℕ → Tables → List Branch → Type 0
HasAll told whole top t branches =
    (q : ℕ) (name : List ℕ) (e : NamedEntry) → is_at_or_below whole top q ≡ true → IsTrue (is_some (inode_at t q)) → is_in branches q ≡ false
    → named_at told q name ≡ Some e → IsThere t e.row

module _ (told : Tables) (whole : Tree) (v : IsValid told) (same : Represents told whole) (well : IsWellFormed whole) (top : ℕ) where
  named : (q : ℕ) (name : List ℕ) (e : NamedEntry) → named_at told q name ≡ Some e → IsNamed told q name e
  named q name e found = named_is told v q name e found

  -- entries with two names, or in two directories, are two
  other_name : (q p : ℕ) (name by : List ℕ) (e f : NamedEntry) → named_at told q name ≡ Some e → named_at told p by ≡ Some f → (name ≡ by → ⊥) → f.row ≡ e.row → ⊥
  other_name q p name by e f first second apart row =
      apart ((named q name e first).called ∙ ap (λ (x : NamedEntry). x.name) (sym (one_named told p q by name f e (named p by f second) (named q name e first) row)) ∙ sym (named p by f second).called)

  other_parent : (q : ℕ) (name : List ℕ) (e : NamedEntry) (c : Content) (d : ℕ) → named_at told q name ≡ Some e → c.parent ≡ d → (q ≡ d → ⊥) → e.row ≡ c → ⊥
  other_parent q name e c d found parent apart row = apart (sym (named q name e found).parent ∙ ap (λ (x : Content). x.parent) row ∙ parent)

  up : (d : ℕ) → IsTrue (rises by_entry_name (named_entries told d))
  up d = rises-sorted_by by_entry_name nat_list_cmp_total (filter_map (with_entry_name told) (filter (λ (r : Content). r.parent == d) told.contents))

  -- ---- an entry of another directory goes

  module _ (u w : Tables) (c : Content) (d : ℕ) (there : IsThere told c) (parent : c.parent ≡ d) (leaves : Leaves u w c) where
    branch_left : (but : List ℕ → Type 0) (b : Branch) → (b.level.directory ≡ d → ⊥) → IsBranch told whole top u but b → IsBranch told whole top w but b
    branch_left but b apart is = record {
      inside = is.inside;
      folder = is.folder;
      later = λ name e found later.
          stays_there told u w c there leaves e.row (named b.level.directory name e found).there (other_parent b.level.directory name e c d found parent apart) (is.later name e found later);
      earlier = λ name e found early other. stays_gone told u w c there leaves e.row (is.earlier name e found early other);
    }

    apart_of : (b : Branch) (bs : List Branch) → is_in (b ∷ bs) d ≡ false → (b.level.directory ≡ d → ⊥) × (is_in bs d ≡ false)
    apart_of b bs is =
        let parts = or_parts (b.level.directory == d) (is_in bs d) is in
        (λ here. both_ways (b.level.directory == d) parts.0 (eq-eqb b.level.directory d here), parts.1)

    above_left : (child : Branch) (bs : List Branch) → is_in bs d ≡ false → AreAbove told whole top u child bs → AreAbove told whole top w child bs
    above_left child [] out above = above
    above_left child (b ∷ bs) out above =
        let apart = apart_of b bs out in
        let holds : Holds told u child b = above.0 in (
          record {
            entry = holds.entry;
            named = holds.named;
            own = holds.own;
            names = holds.names;
            there =
                stays_there told u w c there leaves holds.entry.row (named b.level.directory b.level.last holds.entry holds.named).there
                (other_parent b.level.directory b.level.last holds.entry c d holds.named parent apart.0) holds.there;
          },
          branch_left (λ name. name ≡ b.level.last) b apart.0 above.1,
          above.2,
          above_left b bs apart.1 above.3,
        )

    there_left : (q : ℕ) (name : List ℕ) (e : NamedEntry) → named_at told q name ≡ Some e → (q ≡ d → ⊥) → IsThere u e.row → IsThere w e.row
    there_left q name e found apart is = stays_there told u w c there leaves e.row (named q name e found).there (other_parent q name e c d found parent apart) is

  -- the directories above are apart from one
  above_apart : (t : Tables) (child : Branch) (bs : List Branch) → AreAbove told whole top t child bs → is_in bs child.level.directory ≡ false
  above_apart t child [] above = refl
  above_apart t child (b ∷ bs) above = above.2

  above_moved : (t : Tables) (b : Branch) (name : List ℕ) (bs : List Branch) → AreAbove told whole top t b bs → AreAbove told whole top t (moved b name) bs
  above_moved t b name [] above = above
  above_moved t b name (m ∷ ms) above =
      let holds : Holds told t b m = above.0 in
      (record { entry = holds.entry; named = holds.named; own = holds.own; names = holds.names; there = holds.there }, above.1, above.2, above.3)

  -- ---- behind the next entry

  module _ (u : Tables) (b : Branch) (bs : List Branch) (are : AreBranches told whole top u (b ∷ bs)) (e : NamedEntry)
      (is_next : slice_get (entries_listed told b.level.directory b.level.last 1) 0 ≡ Some e) where
    abbrev d : ℕ
    d = b.level.directory

    pub next_named : named_at told d e.name ≡ Some e
    next_named = next_found b.level.last (named_entries told d) (up d) e is_next

    behind : IsTrue (is_lt (bytes_cmp b.level.last e.name))
    behind = next_later b.level.last (named_entries told d) e is_next

    pub next_there : IsThere u e.row
    next_there = are.0.later e.name e next_named behind

    next_parent : e.row.parent ≡ d
    next_parent = (named d e.name e next_named).parent

    pub next_in_tree : tree.entry_at whole d e.name ≡ Some e.row.inode
    next_in_tree = name_in_tree told whole v same d e.name e (named d e.name e next_named)

    own_out : is_in bs d ≡ false
    own_out = above_apart u b bs are.1

    -- what is not later than the entry, is no later than the last one, or is the entry
    none_between : (name : List ℕ) (f : NamedEntry) → named_at told d name ≡ Some f → is_lt (bytes_cmp e.name name) ≡ false → (name ≡ e.name → ⊥) → HasGone u f.row
    none_between name f found early other = by_case (is_lt (bytes_cmp b.level.last name)) refl
      where
        by_case : (x : Bool) → is_lt (bytes_cmp b.level.last name) ≡ x → HasGone u f.row
        by_case true later =
            elim (next_is_least b.level.last (named_entries told d) (up d) e is_next name f found later) [
              | inl same ↦ absurd (other same)
              | inr after ↦ absurd (both_ways (is_lt (bytes_cmp e.name name)) early after)
            ]
        by_case false none = are.0.earlier name f found none (λ none. none)

    branch_moved : IsBranch told whole top u (λ name. name ≡ e.name) (moved b e.name)
    branch_moved = record {
      inside = are.0.inside;
      folder = are.0.folder;
      later = λ name f found later. are.0.later name f found (later_trans b.level.last e.name name behind later);
      earlier = λ name f found early other. none_between name f found early other;
    }

    -- the entry goes
    module _ (w : Tables) (leaves : Leaves u w e.row) where
      there_told : IsThere told e.row
      there_told = (named d e.name e next_named).there

      branch_now : IsBranch told whole top w (λ name. ⊥) (moved b e.name)
      branch_now = record {
        inside = are.0.inside;
        folder = are.0.folder;
        later = λ name f found later.
            stays_there told u w e.row there_told leaves f.row (named d name f found).there
            (other_name d d e.name name e f next_named found (λ same. not_later_itself e.name (subst (λ x. IsTrue (is_lt (bytes_cmp e.name x))) (sym same) later)))
            (branch_moved.later name f found later);
        earlier = λ name f found early none.
            elim (cases_name name e.name) [
              | inl here ↦
                  let one : Some e ≡ Some f = sym next_named ∙ ap (named_at told d) (sym here) ∙ found in
                  let entry : e ≡ f = cc one in
                  subst (λ (x : NamedEntry). HasGone w x.row) entry (goes told u w e.row there_told leaves)
              | inr apart ↦ stays_gone told u w e.row there_told leaves f.row (none_between name f found early apart)
            ];
      }

      pub branches_after : AreBranches told whole top w (moved b e.name ∷ bs)
      branches_after = (branch_now, above_moved w b e.name bs (above_left u w e.row d there_told next_parent leaves b bs own_out are.1))

      pub all_after : HasAll told whole top u (b ∷ bs) → HasAll told whole top w (moved b e.name ∷ bs)
      all_after all q name f inside living out found =
          there_left u w e.row d there_told next_parent leaves q name f found
          (λ here. both_ways (d == q) (or_parts (d == q) (is_in bs q) out).0 (eq-eqb d q (sym here)))
          (all q name f inside (leaves.inodes q living) out found)

    -- the entry is that of a directory, and the walk goes into it
    module _ (folder : IsTrue (is_folder (node_at whole e.row.inode))) (first : IsTrue (is_folder (node_at whole top))) (living : IsTrue (is_some (inode_at u e.row.inode)))
        (all : HasAll told whole top u (b ∷ bs)) where
      grown : Grown NoneGoes (shape_of whole)
      grown = grown_of whole well.nodes well.names well.tree well.orphans

      below : IsBelow (shape_of whole) top (is_at_or_below whole top)
      below = below_shape whole well.names top

      inside_child : is_at_or_below whole top e.row.inode ≡ true
      inside_child = below.down d e.row.inode e.name are.0.inside next_in_tree

      -- no directory that the walk is in is the one
      new_at : (k : Branch) (ks : List Branch) → is_in ks d ≡ false → AreAbove told whole top u k ks → is_in (k ∷ ks) e.row.inode ≡ false
      new_at k [] out above =
          or_from (k.level.directory == e.row.inode) false
          (ne_eqb k.level.directory e.row.inode (λ here.
          no_round NoneGoes (shape_of whole) top (is_at_or_below whole top) below grown (λ x. x) (folder_kind (node_at whole top) first) d e.name are.0.inside
          (next_in_tree ∙ ap Some (sym here ∙ above.0)))) refl
      new_at k (m ∷ ms) out above =
          let holds : Holds told u k m = above.0 in
          let parts = or_parts (m.level.directory == d) (is_in ms d) out in
          or_from (k.level.directory == e.row.inode) (is_in (m ∷ ms) e.row.inode)
          (ne_eqb k.level.directory e.row.inode (λ here.
          let other : tree.entry_at whole m.level.directory m.level.last ≡ Some e.row.inode =
          name_in_tree told whole v same m.level.directory m.level.last holds.entry (named m.level.directory m.level.last holds.entry holds.named) ∙ ap Some (holds.names ∙ here) in
          let place = grown.once d m.level.directory e.row.inode e.name m.level.last (folder_kind (node_at whole e.row.inode) folder) next_in_tree other in
          both_ways (m.level.directory == d) parts.0 (eq-eqb m.level.directory d place.0)))
          (new_at m ms parts.1 above.3)

      new : is_in (b ∷ bs) e.row.inode ≡ false
      new = new_at b bs own_out are.1

      pub branches_below : AreBranches told whole top u (below_entry e ∷ moved b e.name ∷ bs)
      branches_below = (
        record {
          inside = inside_child;
          folder = folder;
          later = λ name f found later. all e.row.inode name f inside_child living new found;
          earlier = λ name f found early none.
              let legal = well.tree.names e.row.inode f.row.inode name (name_in_tree told whole v same e.row.inode name f (named e.row.inode name f found)) in
              absurd (both_ways (is_lt (bytes_cmp [] name)) early (name_later name legal));
        },
        (record { entry = e; named = next_named; own = refl; names = refl; there = next_there }, branch_moved, new, above_moved u b e.name bs are.1),
      )

      pub all_below : HasAll told whole top u (below_entry e ∷ moved b e.name ∷ bs)
      all_below q name f inside living_too out found = all q name f inside living_too (or_parts (e.row.inode == q) (is_in (moved b e.name ∷ bs) q) out).1 found

  -- ---- a directory that has no entry left

  module _ (u : Tables) (b : Branch) (bs : List Branch) (are : AreBranches told whole top u (b ∷ bs)) (rest : (parent name_id : ℕ) (c : Content) → entry_at u parent name_id ≡ Some c → entry_at told parent name_id ≡ Some c)
      (ordered : IsTrue (rises by_entry u.contents)) (none : slice_get (entries_listed told b.level.directory b.level.last 1) 0 ≡ None) where
    gone_all : (name : List ℕ) (f : NamedEntry) → named_at told b.level.directory name ≡ Some f → HasGone u f.row
    gone_all name f found = by_case (is_lt (bytes_cmp b.level.last name)) refl
      where
        by_case : (x : Bool) → is_lt (bytes_cmp b.level.last name) ≡ x → HasGone u f.row
        by_case true later = absurd (none_behind b.level.last (named_entries told b.level.directory) none name f found later)
        by_case false early = are.0.earlier name f found early (λ none. none)

    pub bare_branch : IsTrue (list_all (λ (x : Content). not (x.parent == b.level.directory)) u.contents)
    bare_branch =
        list_all_from_row_at by_entry pair_cmp_total (λ (x : Content). not (x.parent == b.level.directory)) u.contents ordered (λ key x found. by_case x (own_key key x found) (x.parent == b.level.directory) refl)
      where
        own_key : (key : ℕ × ℕ) (x : Content) → entry_at u key.0 key.1 ≡ Some x → IsThere u x
        own_key key x found =
            let parts = pair_parts key (x.parent, x.name_id) (find_passes _ u.contents x found) in
            (λ i. entry_at u (sym parts.0 i) (sym parts.1 i)) ∙ found

        by_case : (x : Content) → IsThere u x → (c : Bool) → (x.parent == b.level.directory) ≡ c → IsTrue (not c)
        by_case x there true here =
            let parent : x.parent ≡ b.level.directory = eqb-true x.parent b.level.directory here in
            let entry = listed told whole v same x (rest x.parent x.name_id x there) in
            let found : named_at told b.level.directory entry.0.name ≡ Some entry.0 = ap (λ q. named_at told q entry.0.name) (sym parent) ∙ entry.1 in
            let gone : HasGone u x = subst (λ (y : Content). HasGone u y) entry.2 (gone_all entry.0.name entry.0 found) in
            let clash : None ≡ Some x = sym gone ∙ there in
            absurd (cc clash)
        by_case x there false here = refl

  -- it goes with its own entry
  module _ (u w : Tables) (b m : Branch) (ms : List Branch) (are : AreBranches told whole top u (b ∷ m ∷ ms)) (leaves : Leaves u w are.1.0.entry.row)
      (gone : inode_at w b.level.directory ≡ None) where
    abbrev holds : Holds told u b m
    holds = are.1.0

    abbrev entry : NamedEntry
    entry = are.1.0.entry

    is_named : IsNamed told m.level.directory m.level.last entry
    is_named = named m.level.directory m.level.last entry holds.named

    branch_up : IsBranch told whole top w (λ name. ⊥) m
    branch_up = record {
      inside = are.1.1.inside;
      folder = are.1.1.folder;
      later = λ name f found later.
          stays_there told u w entry.row is_named.there leaves f.row (named m.level.directory name f found).there
          (other_name m.level.directory m.level.directory m.level.last name entry f holds.named found
          (λ same. not_later_itself m.level.last (subst (λ x. IsTrue (is_lt (bytes_cmp m.level.last x))) (sym same) later)))
          (are.1.1.later name f found later);
      earlier = λ name f found early none.
          elim (cases_name name m.level.last) [
            | inl here ↦
                let one : Some entry ≡ Some f = sym holds.named ∙ ap (named_at told m.level.directory) (sym here) ∙ found in
                let same_entry : entry ≡ f = cc one in
                subst (λ (x : NamedEntry). HasGone w x.row) same_entry (goes told u w entry.row is_named.there leaves)
            | inr apart ↦ stays_gone told u w entry.row is_named.there leaves f.row (are.1.1.earlier name f found early apart)
          ];
    }

    pub branches_up : AreBranches told whole top w (m ∷ ms)
    branches_up = (branch_up, above_left u w entry.row m.level.directory is_named.there is_named.parent leaves m ms (above_apart u m ms are.1.3) are.1.3)

    pub all_up : HasAll told whole top u (b ∷ m ∷ ms) → HasAll told whole top w (m ∷ ms)
    all_up all q name f inside living out found =
        there_left u w entry.row m.level.directory is_named.there is_named.parent leaves q name f found
        (λ here. both_ways (m.level.directory == q) (or_parts (m.level.directory == q) (is_in ms q) out).0 (eq-eqb m.level.directory q (sym here)))
        (all q name f inside (leaves.inodes q living)
        (or_from (b.level.directory == q) (is_in (m ∷ ms) q)
        (ne_eqb b.level.directory q (λ here.
        let clash : false ≡ true = sym (ap is_some gone) ∙ ap (λ x. is_some (inode_at w x)) here ∙ living in
        cc clash)) out) found)
