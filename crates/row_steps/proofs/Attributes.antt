-- Attributes that are set and removed: an inode has one more, another value of one, or one less, and is stamped.
use Rattle.std.proofs.Common.{◌≡◌, ℕ, suc, List, [], ◌∷◌, length, true, false, Option, None, Some, refl, sym, ap, ◌∙◌, subst, arith}
use Rattle.std.specs.Prelude.{IsTrue, is_some, option_map, unwrap_or}
use Rattle.std.specs.Cmp.{nat_cmp_total}
use Rattle.std.proofs.lemmas.Bool.{and_from, and_parts}
use Rattle.op_frames.specs.declared.operation.Op.TheVariants as ops
use Rattle.op_frames.specs.declared.operation.SetFlag.{SetFlag}
use Rattle.plain_tree.specs.Tree.{Tree, change_node, stamped}
use Rattle.plain_tree.specs.Pages.{with_attribute, without_attribute}
use Rattle.plain_tree.specs.Checks.{first_failure}
use Rattle.plain_tree.specs.Operations.{checks, effect}
use Rattle.plain_tree.specs.WellFormed.{IsWellFormed}
use Rattle.s3_rows.specs.Rows.{Inode, Name, Attr, Parameters}
use Rattle.s3_rows.specs.Keyed.{has_key, put, without}
use Rattle.s3_rows.specs.Tables.{Tables, by_attr, by_inode, by_name}
use Rattle.s3_rows.specs.Batches.{tables_after}
use Rattle.s3_rows.specs.Selections.{inode_at, name_at, attr_at}
use Rattle.s3_rows.specs.Validity.{IsValid, HasUniqueNames, any_kind, finds_of_attr, has_inode}
use Rattle.row_lemmas.proofs.Tests.{find_passes, pair_parts}
use Rattle.row_lemmas.proofs.Keyed.RowAt.{row_at_passes}
use Rattle.row_lemmas.proofs.Keyed.Put.{length-put_new, length-put_there, row_at-put_same}
use Rattle.row_lemmas.proofs.Keyed.Count.{length-without_there}
use Rattle.row_lemmas.proofs.Tables.{pair_cmp_total, tables_after-tables_after}
use Rattle.tree_laws.proofs.WellFormed.{IsWellFormed-effect}
use Rattle.tree_rows.specs.NamedAttrs.{attr_of_name}
use Rattle.tree_rows.specs.Shapes.{Represents}
use Rattle.tree_rows.proofs.NamedAttrs.{IsAttrNamed, IsAttrNamed_from_row, attr_of_name-named}
use Rattle.tree_rows.proofs.Validity.Tables.{IsValid_from_tree}
use Rattle.tree_rows.proofs.Whole.{number_of}
use Rattle.ref_counts.specs.Names.{Raised, lowered, raised}
use Rattle.ref_counts.specs.Plans.{IsStep, next_inode_of, next_name_of, settings}
use Rattle.ref_counts.proofs.Rest.{LeavesRest-LeavesBlocks}
use Rattle.row_steps.specs.Owed.{Owes}
use Rattle.row_steps.specs.RowChanges.{adding_attr, removing_attr, setting_attr, stamped_row}
use Rattle.row_steps.proofs.Owed.Attrs.{Owes-put_attr_new, Owes-put_attr_there, Owes-without_attr}
use Rattle.row_steps.proofs.Owed.Ends.{HasPremises-Owes, Owes-IsValid}
use Rattle.row_steps.proofs.Owed.Inodes.{Owes-put_inode_same, one_number}
use Rattle.row_steps.proofs.Owed.Lowered.{IsLower, IsLower-lowered}
use Rattle.row_steps.proofs.Owed.Names.{KeepsBytes-put, any_name}
use Rattle.row_steps.proofs.Owed.Raised.{IsRaise, IsRaise-raised}
use Rattle.row_steps.proofs.Shape.Attributes.{Represents-put_attr, Represents-without_attr}
use Rattle.row_steps.proofs.Shape.Names.{Represents-names}

module _ (t : Tables) (whole : Tree) (p : Parameters) (r : Inode) (name : List ℕ) (now : ℕ) (v : IsValid t) (unique : HasUniqueNames t)
    (same : Represents t whole) (made : t.params ≡ Some p) (there : inode_at t r.id ≡ Some r) where
  owes : Owes t p [] []
  owes = Owes-IsValid t p v made

  -- ---- one more

  module _ (more : Raised) (value : List ℕ) (free : attr_of_name t r.id name ≡ None) (used : raised t name ≡ Some more) where
    raise : IsRaise t p [] [] more name
    raise = IsRaise-raised t p [] [] more name owes refl used

    abbrev named : Tables
    named = record t { params = Some (record p { next_name = raise.next }); names = put by_name raise.row t.names }

    abbrev attr : Attr
    attr = record { inode = r.id; name_id = raise.row.id; value = value }

    abbrev added : Tables
    added = record named { attrs = put by_attr attr t.attrs; inodes = put by_inode (stamped_row now r) t.inodes }

    row_there : name_at named raise.row.id ≡ Some raise.row
    row_there = row_at-put_same by_name nat_cmp_total raise.row t.names

    absent : attr_at t r.id raise.row.id ≡ None
    absent = by_row (attr_at t r.id raise.row.id) refl
      where
        by_name_row : (a : Attr) → attr_at t r.id raise.row.id ≡ Some a → (row : Option Name) → name_at t raise.row.id ≡ row → IsTrue (is_some row) → ⊥
        by_name_row a at None none some = absurd (cc some)
        by_name_row a at (Some m) found some =
            let text : m.name ≡ name = raise.kept m found ∙ raise.bytes in
            let clash : None ≡ Some a =
            sym free ∙ ap (attr_of_name t r.id) (sym text) ∙ attr_of_name-named t unique owes.ordered.names r.id raise.row.id a m at found in
            cc clash

        by_row : (row : Option Attr) → attr_at t r.id raise.row.id ≡ row → row ≡ None
        by_row None is = refl
        by_row (Some a) is =
            let parts = pair_parts (r.id, raise.row.id) (a.inode, a.name_id) (find_passes (has_key by_attr (r.id, raise.row.id)) t.attrs a is) in
            let finds : IsTrue (finds_of_attr t a) = row_at_passes by_attr (finds_of_attr t) (r.id, raise.row.id) t.attrs a owes.rows.attrs is in
            absurd (by_name_row a is (name_at t raise.row.id) refl
            (ap (λ id. is_some (name_at t id)) parts.1 ∙ (and_parts (has_inode any_kind t a.inode) (is_some (name_at t a.name_id)) finds).1))

    added_is : tables_after (adding_attr r more value now) t ≡ added
    added_is =
        sym (tables_after-tables_after more.changes (setting_attr r more.id value now) t) ∙ ap (tables_after (setting_attr r more.id value now)) raise.after
        ∙ ap (λ id. tables_after (setting_attr r id value now) named) (sym raise.id)

    owes_added : Owes added (record p { next_name = raise.next }) [] []
    owes_added =
        Owes-put_inode_same (record named { attrs = put by_attr attr t.attrs }) (record p { next_name = raise.next }) r (stamped_row now r) [] []
        (Owes-put_attr_new named (record p { next_name = raise.next }) attr [] [] raise.owes absent
        (and_from (has_inode any_kind named r.id) (is_some (name_at named raise.row.id))
        (ap (λ (found : Option Inode). elim found [ Some x ↦ any_kind x.kind | None ↦ false ]) there) (ap is_some row_there)))
        there refl refl refl

    represents_added : Represents added (change_node r.id (λ node. stamped now (with_attribute name value node)) whole)
    represents_added =
        let named_only : Tables = record t { names = put by_name raise.row t.names } in
        let first : Represents named_only whole =
        Represents-names t (put by_name raise.row t.names) (λ x. true) (any_name t) (KeepsBytes-put t raise.row raise.kept) owes.rows.entries owes.rows.attrs whole same in
        let params : Represents named whole = subst (λ (q : Option Parameters). Represents (record named_only { params = q }) whole) owes.made first in
        subst (λ (text : List ℕ). Represents added (change_node r.id (λ node. stamped now (with_attribute text value node)) whole)) raise.bytes
        (Represents-put_attr named (raise.unique unique) attr raise.row row_there owes.ordered.attrs owes.ordered.inodes whole params r now refl there)

    added_step : IsWellFormed (change_node r.id (λ node. stamped now (with_attribute name value node)) whole)
        → IsStep t (tables_after (adding_attr r more value now) t) (change_node r.id (λ node. stamped now (with_attribute name value node)) whole) 1
    added_step well =
        let next : Tree = change_node r.id (λ node. stamped now (with_attribute name value node)) whole in
        let inode : next_inode_of t ≡ p.next_inode = ap (λ (found : Option Parameters). unwrap_or (option_map (λ q. q.next_inode) found) 0) made in
        let id : next_name_of t ≡ p.next_name = ap (λ (found : Option Parameters). unwrap_or (option_map (λ q. q.next_name) found) 0) made in
        let longer : length (put by_attr attr t.attrs) ≡ suc (length t.attrs) = length-put_new by_attr attr t.attrs (ap is_some absent) in
        let step : IsStep t added next 1 = record {
          valid = IsValid_from_tree added next (HasPremises-Owes added (record p { next_name = raise.next }) owes_added) represents_added well;
          represents = represents_added;
          unique = λ unique. raise.unique unique;
          rest = LeavesRest-LeavesBlocks t added (record {
            params = sym (ap (option_map settings) made);
            next_inode = omega (arith, inode);
            next_name = omega (arith, id, raise.least);
            inode_blocks = refl;
            blocks = refl;
            objects = refl;
            slots = refl;
          });
          small = record { names = omega (arith, id, raise.most); uses = omega (arith, longer) };
        } in
        subst (λ (u : Tables). IsStep t u next 1) (sym added_is) step

  -- ---- one that is there

  module _ (a : Attr) (is : IsAttrNamed t r.id name a) where
    -- another value
    module _ (value : List ℕ) where
      abbrev changed : Attr
      changed = record { inode = r.id; name_id = a.name_id; value = value }

      abbrev set : Tables
      set = record t { attrs = put by_attr changed t.attrs; inodes = put by_inode (stamped_row now r) t.inodes }

      old_there : attr_at t r.id a.name_id ≡ Some a
      old_there = ap (λ id. attr_at t id a.name_id) (sym is.own) ∙ is.there

      represents_set : Represents set (change_node r.id (λ node. stamped now (with_attribute name value node)) whole)
      represents_set =
          subst (λ (text : List ℕ). Represents set (change_node r.id (λ node. stamped now (with_attribute text value node)) whole)) is.bytes
          (Represents-put_attr t unique changed is.row is.named owes.ordered.attrs owes.ordered.inodes whole same r now refl there)

      set_step : IsWellFormed (change_node r.id (λ node. stamped now (with_attribute name value node)) whole)
          → IsStep t (tables_after (setting_attr r a.name_id value now) t) (change_node r.id (λ node. stamped now (with_attribute name value node)) whole) 0
      set_step well =
          let next : Tree = change_node r.id (λ node. stamped now (with_attribute name value node)) whole in
          let owes_set : Owes set p [] [] =
          Owes-put_inode_same (record t { attrs = put by_attr changed t.attrs }) p r (stamped_row now r) [] []
          (Owes-put_attr_there t p a changed [] [] owes old_there) there refl refl refl in
          let as_long : length (put by_attr changed t.attrs) ≡ length t.attrs = length-put_there by_attr pair_cmp_total changed a t.attrs owes.ordered.attrs old_there in
          record {
            valid = IsValid_from_tree set next (HasPremises-Owes set p owes_set) represents_set well;
            represents = represents_set;
            unique = λ unique. unique;
            rest = LeavesRest-LeavesBlocks t set (record { params = refl; next_inode = omega arith; next_name = omega arith; inode_blocks = refl; blocks = refl; objects = refl; slots = refl });
            small = record { names = omega arith; uses = omega (arith, as_long) };
          }

    -- ---- one less

    abbrev left : Tables
    left = record t { attrs = without by_attr (a.inode, a.name_id) t.attrs; inodes = put by_inode (stamped_row now r) t.inodes }

    id_is : a.name_id ≡ is.row.id
    id_is = one_number a.name_id is.row.id (find_passes (has_key by_name a.name_id) t.names is.row is.named)

    lower : IsLower left p [] [] (lowered is.row)
    lower =
        IsLower-lowered left p is.row [] []
        (subst (λ id. Owes left p [] (id ∷ [])) id_is
        (Owes-put_inode_same (record t { attrs = without by_attr (a.inode, a.name_id) t.attrs }) p r (stamped_row now r) [] (a.name_id ∷ [])
        (Owes-without_attr t p a [] [] owes is.there) there refl refl refl))
        (ap (name_at t) (sym id_is) ∙ is.named)

    abbrev gone : Tables
    gone = record left { names = lower.rows }

    represents_gone : Represents gone (change_node r.id (λ node. stamped now (without_attribute name node)) whole)
    represents_gone =
        lower.represents (change_node r.id (λ node. stamped now (without_attribute name node)) whole)
        (subst (λ (text : List ℕ). Represents left (change_node r.id (λ node. stamped now (without_attribute text node)) whole)) is.bytes
        (Represents-without_attr t unique a is.row is.named owes.ordered.attrs owes.ordered.inodes whole same r now (sym is.own) there is.there))

    removed_step : IsWellFormed (change_node r.id (λ node. stamped now (without_attribute name node)) whole)
        → IsStep t (tables_after (removing_attr r a is.row now) t) (change_node r.id (λ node. stamped now (without_attribute name node)) whole) 0
    removed_step well =
        let next : Tree = change_node r.id (λ node. stamped now (without_attribute name node)) whole in
        let shorter : suc (length (without by_attr (a.inode, a.name_id) t.attrs)) ≡ length t.attrs =
        length-without_there by_attr pair_cmp_total (a.inode, a.name_id) a t.attrs owes.ordered.attrs is.there in
        let step : IsStep t gone next 0 = record {
          valid = IsValid_from_tree gone next (HasPremises-Owes gone p lower.owes) represents_gone well;
          represents = represents_gone;
          unique = λ unique. lower.unique unique;
          rest = LeavesRest-LeavesBlocks t gone (record { params = refl; next_inode = omega arith; next_name = omega arith; inode_blocks = refl; blocks = refl; objects = refl; slots = refl });
          small = record { names = omega arith; uses = omega (arith, shorter) };
        } in
        subst (λ (u : Tables). IsStep t u next 0) (sym lower.after) step

-- ---- operations

module _ (t : Tables) (whole : Tree) (p : Parameters) (r : Inode) (pass inode now : ℕ) (name : List ℕ) (v : IsValid t) (unique : HasUniqueNames t)
    (well : IsWellFormed whole) (same : Represents t whole) (made : t.params ≡ Some p) (found : inode_at t inode ≡ Some r) where
  number : inode ≡ r.id
  number = number_of t inode r found

  own : inode_at t r.id ≡ Some r
  own = ap (inode_at t) (sym number) ∙ found

  pub new_attribute_step : (flag : SetFlag) (value : List ℕ) (more : Raised) → first_failure (checks whole pass (ops.Setxattr inode name flag value)) ≡ None
      → attr_of_name t inode name ≡ None → raised t name ≡ Some more
      → IsStep t (tables_after (adding_attr r more value now) t) (effect whole pass (ops.Setxattr inode name flag value) now) 1
  new_attribute_step flag value more passes free used =
      subst (λ x. IsStep t (tables_after (adding_attr r more value now) t) (change_node x (λ node. stamped now (with_attribute name value node)) whole) 1) (sym number)
      (added_step t whole p r name now v unique same made own more value (ap (λ x. attr_of_name t x name) (sym number) ∙ free) used
      (subst (λ x. IsWellFormed (change_node x (λ node. stamped now (with_attribute name value node)) whole)) number
      (IsWellFormed-effect whole pass now (ops.Setxattr inode name flag value) well passes)))

  pub set_attribute_step : (flag : SetFlag) (value : List ℕ) (a : Attr) → first_failure (checks whole pass (ops.Setxattr inode name flag value)) ≡ None
      → attr_of_name t inode name ≡ Some a
      → IsStep t (tables_after (setting_attr r a.name_id value now) t) (effect whole pass (ops.Setxattr inode name flag value) now) 0
  set_attribute_step flag value a passes is =
      subst (λ x. IsStep t (tables_after (setting_attr r a.name_id value now) t) (change_node x (λ node. stamped now (with_attribute name value node)) whole) 0) (sym number)
      (set_step t whole p r name now v unique same made own a
      (IsAttrNamed_from_row t v.ordered.names name r.id a (ap (λ x. attr_of_name t x name) (sym number) ∙ is)) value
      (subst (λ x. IsWellFormed (change_node x (λ node. stamped now (with_attribute name value node)) whole)) number
      (IsWellFormed-effect whole pass now (ops.Setxattr inode name flag value) well passes)))

  pub removed_attribute_step : (a : Attr) (n : Name) → first_failure (checks whole pass (ops.Removexattr inode name)) ≡ None
      → attr_of_name t inode name ≡ Some a → name_at t a.name_id ≡ Some n
      → IsStep t (tables_after (removing_attr r a n now) t) (effect whole pass (ops.Removexattr inode name) now) 0
  removed_attribute_step a n passes is named =
      let there = IsAttrNamed_from_row t v.ordered.names name r.id a (ap (λ x. attr_of_name t x name) (sym number) ∙ is) in
      let both : Some there.row ≡ Some n = sym there.named ∙ named in
      let row : there.row ≡ n = cc both in
      subst (λ (m : Name). IsStep t (tables_after (removing_attr r a m now) t) (change_node inode (λ node. stamped now (without_attribute name node)) whole) 0) row
      (subst (λ x. IsStep t (tables_after (removing_attr r a there.row now) t) (change_node x (λ node. stamped now (without_attribute name node)) whole) 0) (sym number)
      (removed_step t whole p r name now v unique same made own a there
      (subst (λ x. IsWellFormed (change_node x (λ node. stamped now (without_attribute name node)) whole)) number
      (IsWellFormed-effect whole pass now (ops.Removexattr inode name) well passes))))
