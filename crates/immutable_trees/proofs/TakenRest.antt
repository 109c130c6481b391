-- What stays where an entry goes: the other entries, and what is of the inodes that have rows still.
use Rattle.std.proofs.Common.{◌≡◌, ℕ, List, [], ◌∷◌, Bool, true, false, cond, Option, None, Some, refl, sym, ap, ◌∙◌, subst, eqb-true, eq-eqb}
use Rattle.std.proofs.lemmas.Bool.{and_parts}
use Rattle.std.specs.Prelude.{IsTrue, ◌==◌, ◌&&◌, filter, is_some, nat_le}
use Rattle.std.specs.List.{list_all}
use Rattle.std.specs.Cmp.{nat_cmp_total}
use Rattle.std.specs.Ordering.{is_eq, nat_cmp}
use Rattle.plain_tree.specs.Tree.{Tree}
use Rattle.s3_rows.specs.declared.change.Change.TheVariants as changes
use Rattle.s3_rows.specs.Rows.{Content, Inode, InodeBlock, Name, Parameters}
use Rattle.s3_rows.specs.Keyed.{has_key, put, row_at, without}
use Rattle.s3_rows.specs.Tables.{Tables, by_entry, by_inode, by_spot, by_target}
use Rattle.s3_rows.specs.Batches.{tables_after}
use Rattle.s3_rows.specs.Selections.{entry_at, inode_at, target_at}
use Rattle.row_lemmas.proofs.Tests.{eqb_comm, is_eq-nat_cmp, list_all-filter_same, pair_parts}
use Rattle.row_lemmas.proofs.Keyed.Filter.{filter-without_false}
use Rattle.row_lemmas.proofs.Keyed.Put.{row_at-put}
use Rattle.row_lemmas.proofs.Keyed.Without.{row_at-without}
use Rattle.row_lemmas.proofs.Tables.{pair_cmp_total, tables_after-tables_after}
use Rattle.ref_counts.specs.Links.{is_place_from, places_from}
use Rattle.ref_counts.specs.Removals.{attrs_of}
use Rattle.block_steps.proofs.DroppedPlaces.{inode_blocks-places_dropped, without_all}
use Rattle.row_steps.specs.Owed.{IsBare}
use Rattle.row_steps.proofs.Owed.Inodes.{one_number}
use Rattle.row_steps.proofs.Removing.{attrs_of-removal_other, target_at-removal_other}
use Rattle.row_steps.proofs.WithPlaces.{after_removal-cleared, cleared, inode_at-cleared, inode_at-removal, names-cleared}
use Rattle.immutable_trees.specs.RemovedRows.{file_taken, folder_taken, taking}
use Rattle.immutable_trees.proofs.TakenRows.{IsTaking, IsTaking-cleared, Owes-cut, bare_cut, child_there, cut, cut_is, left, left_is, lower, others, row, unlisted}

-- ---- one entry

-- of w, of which t has one entry more
pub record Leaves (t w : Tables) (c : Content) : Type 0 where
  pub contents : w.contents ≡ without by_entry (c.parent, c.name_id) t.contents
  pub inodes : (y : ℕ) → IsTrue (is_some (inode_at w y)) → IsTrue (is_some (inode_at t y))
  pub attrs : (y : ℕ) → IsTrue (is_some (inode_at w y)) → attrs_of w y ≡ attrs_of t y
  pub targets : (y : ℕ) → IsTrue (is_some (inode_at w y)) → target_at w y ≡ target_at t y
  pub places : (y : ℕ) → IsTrue (is_some (inode_at w y)) → places_from w y 0 ≡ places_from t y 0
  pub slots : w.slots ≡ t.slots

apart_by_row : (w : Tables) (x y : ℕ) → inode_at w x ≡ None → IsTrue (is_some (inode_at w y)) → (y == x) ≡ false
apart_by_row w x y none living = by_case (y == x) refl
  where
    by_case : (b : Bool) → (y == x) ≡ b → b ≡ false
    by_case true same =
        let clash : false ≡ true = sym (ap is_some none) ∙ ap (λ z. is_some (inode_at w z)) (sym (eqb-true y x same)) ∙ living in
        absurd (cc clash)
    by_case false same = refl

-- places of other files
filter-without_all : (x y : ℕ) → (y == x) ≡ false → (rows blocks : List InodeBlock) → IsTrue (list_all (is_place_from x 0) rows)
    → filter (is_place_from y 0) (without_all by_spot rows blocks) ≡ filter (is_place_from y 0) blocks
filter-without_all x y apart [] blocks all = refl
filter-without_all x y apart (r ∷ rs) blocks all =
    let parts = and_parts (is_place_from x 0 r) (list_all (is_place_from x 0) rs) all in
    let number : r.inode ≡ x = eqb-true r.inode x (and_parts (r.inode == x) (nat_le 0 r.blockno) parts.0).0 in
    filter-without_all x y apart rs (without by_spot (r.inode, r.blockno) blocks) parts.1
    ∙ filter-without_false by_spot (is_place_from y 0) (r.inode, r.blockno) blocks
    (λ b alike.
    let own : b.inode ≡ x = sym (pair_parts (r.inode, r.blockno) (b.inode, b.blockno) alike).0 ∙ number in
    ap (λ z. z == y && nat_le 0 b.blockno) own ∙ ap (λ c. c && nat_le 0 b.blockno) (eqb_comm x y ∙ apart))

module _ (t : Tables) (whole : Tree) (p : Parameters) (d r : Inode) (c : Content) (n : Name) (now : ℕ) (is : IsTaking t whole p d r c n) where
  pub Leaves-kept : Leaves t (tables_after (file_taken true now t c n r) t) c
  Leaves-kept =
      let own : Inode = row t whole p d r c n now is in
      let gone : Tables = record (unlisted t whole p d r c n now is) { names = (lower t whole p d r c n now is).rows } in
      let w : Tables = record gone { inodes = put by_inode own gone.inodes } in
      let tables : tables_after (file_taken true now t c n r) t ≡ w =
      sym (tables_after-tables_after (taking c n) (changes.PutInode own ∷ []) t)
      ∙ ap (λ (u : Tables). record u { inodes = put by_inode own u.inodes }) (cut_is t whole p d r c n now is) in
      subst (λ (u : Tables). Leaves t u c) (sym tables) (record {
        contents = refl;
        inodes = λ y living. still y (has_key by_inode y own) refl (sym (ap is_some (row_at-put by_inode nat_cmp_total y own t.inodes)) ∙ living);
        attrs = λ y living. refl;
        targets = λ y living. refl;
        places = λ y living. refl;
        slots = refl;
      })
    where
      still : (y : ℕ) (b : Bool) → has_key by_inode y (row t whole p d r c n now is) ≡ b → IsTrue (is_some (cond b (Some (row t whole p d r c n now is)) (inode_at t y)))
          → IsTrue (is_some (inode_at t y))
      still y true same living = ap (λ z. is_some (inode_at t z)) (one_number y r.id same) ∙ ap is_some (child_there t whole p d r c n now is)
      still y false same living = living

  pub Leaves-bare : IsBare t r.id → Leaves t (tables_after (folder_taken t c n r) t) c
  Leaves-bare bare =
      let w : Tables = left t whole p d r c n now is bare in
      let u : Tables = cut t whole p d r c n now is in
      let gone : Tables = record (unlisted t whole p d r c n now is) { names = (lower t whole p d r c n now is).rows } in
      let cut_gone : u ≡ gone = cut_is t whole p d r c n now is in
      let found : (y : ℕ) → inode_at w y ≡ cond (is_eq (nat_cmp r.id y)) None (inode_at u y) = λ y. row_at-without by_inode nat_cmp_total r.id y u.inodes in
      let none : inode_at w r.id ≡ None = found r.id ∙ ap (λ b. cond b None (inode_at u r.id)) (is_eq-nat_cmp r.id r.id ∙ eq-eqb r.id r.id refl) in
      subst (λ (v : Tables). Leaves t v c) (sym (left_is t whole p d r c n now is bare)) (record {
        contents = ap (λ (v : Tables). v.contents) cut_gone;
        inodes =
            λ y living.
            sym (ap (λ (v : Tables). is_some (inode_at v y)) cut_gone)
            ∙ sym (ap (λ b. is_some (cond b None (inode_at u y))) (is_eq-nat_cmp r.id y ∙ eqb_comm r.id y ∙ apart_by_row w r.id y none living))
            ∙ sym (ap is_some (found y)) ∙ living;
        attrs =
            λ y living.
            attrs_of-removal_other u p r.id (c.inode ∷ []) [] [] (Owes-cut t whole p d r c n now is) (bare_cut t whole p d r c n now is bare) (others t whole p d r c n now is bare) y
            (apart_by_row w r.id y none living)
            ∙ ap (λ (v : Tables). attrs_of v y) cut_gone;
        targets =
            λ y living.
            target_at-removal_other u p r.id (c.inode ∷ []) [] [] (Owes-cut t whole p d r c n now is) (bare_cut t whole p d r c n now is bare) (others t whole p d r c n now is bare) y
            (apart_by_row w r.id y none living)
            ∙ ap (λ (v : Tables). target_at v y) cut_gone;
        places = λ y living. ap (λ (v : Tables). places_from v y 0) cut_gone;
        slots = ap (λ (v : Tables). v.slots) cut_gone;
      })

pub Leaves-gone : (t : Tables) (whole : Tree) (p : Parameters) (d r : Inode) (c : Content) (n : Name) (now : ℕ) (is : IsTaking t whole p d r c n)
    → IsBare (cleared t (places_from t r.id 0)) r.id → Leaves t (tables_after (file_taken false now t c n r) t) c
Leaves-gone t whole p d r c n now is bare =
    let rows : List InodeBlock = places_from t r.id 0 in
    let u : Tables = cleared t rows in
    let w : Tables = tables_after (folder_taken u c n r) u in
    let first : Leaves u w c = Leaves-bare u whole p d r c n now (IsTaking-cleared t whole p d r c n rows is) bare in
    let none : inode_at w r.id ≡ None = inode_at-removal u r.id (taking c n) u in
    subst (λ (v : Tables). Leaves t v c) (sym (after_removal-cleared t rows (taking c n) r.id)) (record {
      contents = first.contents ∙ ap (without by_entry (c.parent, c.name_id)) (names-cleared t rows).contents;
      inodes = λ y living. sym (ap is_some (inode_at-cleared t rows y)) ∙ first.inodes y living;
      attrs = λ y living. first.attrs y living ∙ ap (λ xs. attrs_of (record t { attrs = xs }) y) (names-cleared t rows).attrs;
      targets = λ y living. first.targets y living ∙ ap (λ xs. row_at by_target y xs) (names-cleared t rows).targets;
      places =
          λ y living.
          first.places y living
          ∙ ap (filter (is_place_from y 0)) (inode_blocks-places_dropped rows t)
          ∙ filter-without_all r.id y (apart_by_row w r.id y none living) rows t.inode_blocks (list_all-filter_same (is_place_from r.id 0) t.inode_blocks);
      slots = first.slots ∙ (names-cleared t rows).slots;
    })

-- ---- entries one after the other

-- of u, from which entries went
pub record Rest (t u : Tables) : Type 0 where
  pub entries : (parent name_id : ℕ) (c : Content) → entry_at u parent name_id ≡ Some c → entry_at t parent name_id ≡ Some c
  pub inodes : (y : ℕ) → IsTrue (is_some (inode_at u y)) → IsTrue (is_some (inode_at t y))
  pub attrs : (y : ℕ) → IsTrue (is_some (inode_at u y)) → attrs_of u y ≡ attrs_of t y
  pub targets : (y : ℕ) → IsTrue (is_some (inode_at u y)) → target_at u y ≡ target_at t y
  pub places : (y : ℕ) → IsTrue (is_some (inode_at u y)) → places_from u y 0 ≡ places_from t y 0
  pub slots : u.slots ≡ t.slots

pub Rest-refl : (t : Tables) → Rest t t
Rest-refl t = record {
  entries = λ parent name_id c found. found;
  inodes = λ y living. living;
  attrs = λ y living. refl;
  targets = λ y living. refl;
  places = λ y living. refl;
  slots = refl;
}

-- an entry that is there after one went
pub entry_left : (t w : Tables) (c : Content) → Leaves t w c → (parent name_id : ℕ)
    → entry_at w parent name_id ≡ cond (is_eq (by_entry.compare (c.parent, c.name_id) (parent, name_id))) None (entry_at t parent name_id)
entry_left t w c leaves parent name_id =
    ap (row_at by_entry (parent, name_id)) leaves.contents ∙ row_at-without by_entry pair_cmp_total (c.parent, c.name_id) (parent, name_id) t.contents

some_left : {X : Type 0} (b : Bool) (found : Option X) (x : X) → cond b None found ≡ Some x → found ≡ Some x
some_left true found x is = absurd (cc is)
some_left false found x is = is

pub Rest-more : (t u w : Tables) (c : Content) → Rest t u → Leaves u w c → Rest t w
Rest-more t u w c rest leaves = record {
  entries = λ parent name_id x found.
      rest.entries parent name_id x
      (some_left (is_eq (by_entry.compare (c.parent, c.name_id) (parent, name_id))) (entry_at u parent name_id) x (sym (entry_left u w c leaves parent name_id) ∙ found));
  inodes = λ y living. rest.inodes y (leaves.inodes y living);
  attrs = λ y living. leaves.attrs y living ∙ rest.attrs y (leaves.inodes y living);
  targets = λ y living. leaves.targets y living ∙ rest.targets y (leaves.inodes y living);
  places = λ y living. leaves.places y living ∙ rest.places y (leaves.inodes y living);
  slots = leaves.slots ∙ rest.slots;
}
