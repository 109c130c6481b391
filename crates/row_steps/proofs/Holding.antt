-- The way up from a directory over rows: the entry that names it is in its parent.
use Rattle.std.proofs.Common.{◌≡◌, ℕ, zero, suc, List, [], ◌∷◌, Bool, true, false, cond, Option, None, Some, refl, sym, ap, ◌∙◌, subst, eqb-true, eq-eqb}
use Rattle.std.proofs.lemmas.Bool.{both_ways, and_parts}
use Rattle.std.specs.Prelude.{IsTrue, not, ◌||◌, ◌==◌, length, filter, find, is_some, option_map}
use Rattle.std.specs.List.{AllByRecursion, list_any}
use Rattle.std.specs.Ordering.{is_gt}
use Rattle.s3_base.specs.Numbers.{root}
use Rattle.plain_tree.specs.Below.{is_at_or_below}
use Rattle.plain_tree.specs.Entries.{entry_at}
use Rattle.plain_tree.specs.Tree.{Tree, node_at}
use Rattle.plain_tree.specs.WellFormed.{IsWellFormed, LeadsToRoot}
use Rattle.s3_rows.specs.Rows.{Inode, Content}
use Rattle.s3_rows.specs.Keyed.{Order, has_key, least, row_at}
use Rattle.s3_rows.specs.Tables.{Tables, by_entry, by_inode}
use Rattle.s3_rows.specs.Selections.{inode_at, bytes_of_name, by_parent_and_bytes, holder_of}
use Rattle.s3_rows.specs.Validity.{IsValid, any_kind, finds_of_entry, has_inode, is_below_root, is_directory, leads_to_root, parent_of}
use Rattle.row_lemmas.proofs.Tests.{find_passes, find_passes_all, list_any_from_find}
use Rattle.row_lemmas.proofs.Keyed.RowAt.{row_at_own}
use Rattle.row_lemmas.proofs.Tables.{pair_cmp_total}
use Rattle.tree_laws.proofs.Node.Kind.{folder_kind}
use Rattle.tree_laws.proofs.Shape.Above.{is_at_or_below-parent}
use Rattle.tree_laws.proofs.Shape.Definition.{named_at_one_place}
use Rattle.tree_rows.specs.Shapes.{Represents}
use Rattle.tree_rows.proofs.Listed.{is_entry}
use Rattle.tree_rows.proofs.Rooted.{own_entry}
use Rattle.tree_rows.proofs.Whole.{entry_found, folder_is, number_of}

-- the least of the rows that pass is one of them
least-filter : {K R : Type 0} (o : Order K R) (q : R → Bool) (P : R → Type 0) (rows : List R) → AllByRecursion P rows → (c : R) → least o (filter q rows) ≡ Some c
    → P c × IsTrue (q c)
least-filter o q P [] all c is = absurd (cc is)
least-filter {K} {R} o q P (x ∷ xs) all c is = by_case (least-filter o q P xs all.1) (q x) refl is
  where
    itself : q x ≡ true → Some x ≡ Some c → P c × IsTrue (q c)
    itself passes found =
        let same : x ≡ c = cc found in
        (subst P same all.0, subst (λ y. IsTrue (q y)) same passes)

    by_order : ((y : R) → least o (filter q xs) ≡ Some y → P y × IsTrue (q y)) → q x ≡ true → (y : R) → least o (filter q xs) ≡ Some y → (b : Bool)
        → cond b (Some y) (Some x) ≡ Some c → P c × IsTrue (q c)
    by_order others passes y rest true found = others c (rest ∙ found)
    by_order others passes y rest false found = itself passes found

    by_rest : ((y : R) → least o (filter q xs) ≡ Some y → P y × IsTrue (q y)) → q x ≡ true → (r : Option R) → least o (filter q xs) ≡ r
        → elim r [ None ↦ Some x | Some y ↦ cond (is_gt (o.compare (o.key x) (o.key y))) (Some y) (Some x) ] ≡ Some c → P c × IsTrue (q c)
    by_rest others passes None rest found = itself passes found
    by_rest others passes (Some y) rest found = by_order others passes y rest (is_gt (o.compare (o.key x) (o.key y))) found

    by_case : ((y : R) → least o (filter q xs) ≡ Some y → P y × IsTrue (q y)) → (b : Bool) → q x ≡ b
        → least o (cond b (x ∷ filter q xs) (filter q xs)) ≡ Some c → P c × IsTrue (q c)
    by_case others true passes found = by_rest others passes (least o (filter q xs)) refl found
    by_case others false fails found = others c found

-- and there is one where a row passes
is_some-least : {K R : Type 0} (o : Order K R) (q : R → Bool) (rows : List R) → IsTrue (list_any q rows) → IsTrue (is_some (least o (filter q rows)))
is_some-least o q [] any = absurd (cc any)
is_some-least {K} {R} o q (x ∷ xs) any = by_case (is_some-least o q xs) (q x) any
  where
    by_order : (y : R) (b : Bool) → IsTrue (is_some (cond b (Some y) (Some x)))
    by_order y true = refl
    by_order y false = refl

    by_rest : (r : Option R) → IsTrue (is_some (elim r [ None ↦ Some x | Some y ↦ cond (is_gt (o.compare (o.key x) (o.key y))) (Some y) (Some x) ]))
    by_rest None = refl
    by_rest (Some y) = by_order y (is_gt (o.compare (o.key x) (o.key y)))

    by_case : (IsTrue (list_any q xs) → IsTrue (is_some (least o (filter q xs)))) → (b : Bool) → IsTrue (b || list_any q xs)
        → IsTrue (is_some (least o (cond b (x ∷ filter q xs) (filter q xs))))
    by_case others true some = by_rest (least o (filter q xs))
    by_case others false some = others some

-- a directory but the root has an entry that names it
pub holder_there : (t : Tables) (whole : Tree) → IsValid t → Represents t whole → IsWellFormed whole → (x : ℕ) → IsTrue (has_inode is_directory t x)
    → (x == root) ≡ false → IsTrue (is_some (holder_of t x))
holder_there t whole v same well x folder other =
    let way = well.tree.leads x (folder_is t whole same x ∙ folder) in
    by_steps way.0 way.1
  where
    by_steps : (steps : ℕ) → LeadsToRoot whole steps x → IsTrue (is_some (holder_of t x))
    by_steps zero leads = absurd (both_ways _ other (eq-eqb x root leads))
    by_steps (suc steps) leads =
        let found = entry_found t whole same v.rows.entries leads.0 x leads.1 leads.2 in
        is_some-least (by_parent_and_bytes t) (λ (r : Content). r.inode == x) t.contents
        (list_any_from_find (is_entry t leads.0 leads.1) (λ (r : Content). r.inode == x) t.contents found.0 found.1 (eq-eqb found.0.inode x found.2))

module _ (t : Tables) (whole : Tree) (v : IsValid t) (same : Represents t whole) (x : ℕ) (c : Content) (holds : holder_of t x ≡ Some c) where
  held : (row_at by_entry (c.parent, c.name_id) t.contents ≡ Some c) × IsTrue (c.inode == x)
  held =
      least-filter (by_parent_and_bytes t) (λ (r : Content). r.inode == x) (λ (r : Content). row_at by_entry (r.parent, r.name_id) t.contents ≡ Some r) t.contents
      (row_at_own by_entry pair_cmp_total t.contents v.ordered.contents) c holds

  -- an entry of the tree has it
  pub holder_entry : entry_at whole c.parent (bytes_of_name t c.name_id) ≡ Some x
  holder_entry = own_entry t v whole same (has_key by_entry (c.parent, c.name_id)) c held.0 ∙ ap Some (eqb-true c.inode x held.1)

  -- whose parent is a directory
  pub holder_parent : IsTrue (has_inode is_directory t c.parent)
  holder_parent =
      let finds : IsTrue (finds_of_entry t c) = find_passes_all (has_key by_entry (c.parent, c.name_id)) (finds_of_entry t) t.contents c v.rows.entries held.0 in
      (and_parts (has_inode is_directory t c.parent) _ (and_parts _ (has_inode any_kind t c.inode) finds).0).0

  pub holder_below : IsWellFormed whole → IsTrue (has_inode is_directory t x) → (top : ℕ) → (x == top) ≡ false
      → is_at_or_below whole top x ≡ is_at_or_below whole top c.parent
  holder_below well folder top other =
      is_at_or_below-parent whole well top x c.parent (bytes_of_name t c.name_id) (folder_is t whole same x ∙ folder) holder_entry other

  -- which is one step nearer to the root
  pub holder_nearer : IsWellFormed whole → IsTrue (has_inode is_directory t x) → (x == root) ≡ false → (steps : ℕ) → IsTrue (leads_to_root (suc steps) t x)
      → IsTrue (leads_to_root steps t c.parent)
  holder_nearer well folder other steps leads =
      by_row (find (λ (r : Content). r.inode == x) t.contents) refl
      (sym (ap (λ b. b || elim (parent_of t x) [ Some parent ↦ leads_to_root steps t parent | None ↦ false ]) other) ∙ leads)
    where
      by_row : (found : Option Content) → find (λ (r : Content). r.inode == x) t.contents ≡ found
          → IsTrue (elim (option_map (λ (r : Content). r.parent) found) [ Some parent ↦ leads_to_root steps t parent | None ↦ false ]) → IsTrue (leads_to_root steps t c.parent)
      by_row None there up = absurd (cc up)
      by_row (Some first) there up =
          let number : first.inode ≡ x = eqb-true first.inode x (find_passes (λ (r : Content). r.inode == x) t.contents first there) in
          let one =
          named_at_one_place whole well.tree c.parent first.parent x (bytes_of_name t c.name_id) (bytes_of_name t first.name_id)
          (folder_kind (node_at whole x) (folder_is t whole same x ∙ folder)) holder_entry
          (own_entry t v whole same (λ (r : Content). r.inode == x) first there ∙ ap Some number) in
          subst (λ y. IsTrue (leads_to_root steps t y)) one.0 up

-- a directory leads to the root in no more steps than inodes are many
pub directory_leads : (t : Tables) → IsValid t → (x : ℕ) → IsTrue (has_inode is_directory t x) → IsTrue (leads_to_root (length t.inodes) t x)
directory_leads t v x folder = by_row (inode_at t x) refl folder
  where
    by_kind : (b : Bool) → IsTrue b → (d : Bool) → IsTrue (not b || d) → IsTrue d
    by_kind true is d passes = passes
    by_kind false is d passes = absurd (cc is)

    by_row : (found : Option Inode) → inode_at t x ≡ found → IsTrue (elim found [ Some r ↦ is_directory r.kind | None ↦ false ]) → IsTrue (leads_to_root (length t.inodes) t x)
    by_row None there is = absurd (cc is)
    by_row (Some r) there is =
        subst (λ y. IsTrue (leads_to_root (length t.inodes) t y)) (sym (number_of t x r there))
        (by_kind (is_directory r.kind) is (leads_to_root (length t.inodes) t r.id)
        (find_passes_all (has_key by_inode x) (is_below_root t) t.inodes r v.tree.below_root there))
