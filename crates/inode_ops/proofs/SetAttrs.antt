-- Plans of attributes that are set or removed.
use Rattle.std.proofs.Common.{◌≡◌, ℕ, List, [], ◌∷◌, Bool, cond, Option, None, Some, refl, sym, ap, ◌∙◌, subst}
use Rattle.std.specs.Prelude.{is_some, option_map}
use Rattle.op_frames.specs.declared.operation.Op.{Op}
use Rattle.op_frames.specs.declared.operation.Op.TheVariants as ops
use Rattle.op_frames.specs.declared.operation.SetFlag.{SetFlag}
use Rattle.op_frames.specs.declared.reply.Reply.TheVariants as replies
use Rattle.plain_tree.specs.Tree.{Tree}
use Rattle.plain_tree.specs.WellFormed.{IsWellFormed}
use Rattle.plain_tree.specs.Pages.{attribute_at}
use Rattle.plain_tree.specs.Checks.{first_failure, attribute_check, attribute_name_check, flag_check, value_check}
use Rattle.plain_tree.specs.Classes.{name_used, names_drawn}
use Rattle.plain_tree.specs.Operations.{checks, effect}
use Rattle.s3_rows.specs.declared.change.Change.TheVariants as changes
use Rattle.s3_rows.specs.Rows.{Inode, Name, Attr}
use Rattle.s3_rows.specs.Tables.{Tables}
use Rattle.s3_rows.specs.Batches.{tables_after}
use Rattle.s3_rows.specs.Selections.{inode_at, name_at}
use Rattle.s3_rows.specs.Validity.{IsValid, HasUniqueNames}
use Rattle.row_lemmas.proofs.Tests.{is_some-option_map}
use Rattle.tree_rows.specs.NamedAttrs.{attr_of_name}
use Rattle.tree_rows.specs.Shapes.{Represents}
use Rattle.tree_rows.proofs.NamedAttrs.{IsAttrNamed_from_row, attribute_at-row, value_of}
use Rattle.op_checks.specs.Rows.{row_check, lock_row_check}
use Rattle.ref_counts.specs.Names.{Raised, lowered, raised}
use Rattle.ref_counts.specs.Plans.{IsPlanOf, IsStep, IsWorn}
use Rattle.ref_counts.specs.declared.plan.Plan.{Plan}
use Rattle.ref_counts.specs.declared.plan.Plan.TheVariants as plans
use Rattle.ref_counts.proofs.Idle.{IsWorn-nameless}
use Rattle.ref_counts.proofs.NonEmpty.{some_change, some_changes}
use Rattle.row_steps.specs.RowChanges.{adding_attr, removing_attr, setting_attr, stamped_row}
use Rattle.row_steps.proofs.Attributes.{new_attribute_step, removed_attribute_step, set_attribute_step}
use Rattle.inode_ops.specs.SetAttrs.{IsAdding, IsSetting}
use Rattle.inode_ops.proofs.Planned.{there, unlocked}

module _ (t : Tables) (whole : Tree) (pass x now : ℕ) (name : List ℕ) (v : IsValid t) (unique : HasUniqueNames t) (same : Represents t whole)
    (found : Option Inode) (is : found ≡ inode_at t x) (attr : Option Attr) (attr_is : attr ≡ attr_of_name t x name) where
  value_there : attribute_at whole x name ≡ option_map value_of attr
  value_there = attribute_at-row t unique v.ordered.names v.ordered.attrs v.rows.attrs whole same x name ∙ ap (option_map value_of) (sym attr_is)

  present : is_some (attribute_at whole x name) ≡ is_some attr
  present = ap is_some value_there ∙ is_some-option_map value_of attr

  -- ---- Setxattr

  module _ (flag : SetFlag) (value : List ℕ) where
    abbrev setting : Op
    setting = ops.Setxattr x name flag value

    pub setting_checks : (b : Bool) → b ≡ is_some attr → first_failure (checks whole pass (ops.Setxattr x name flag value))
        ≡ first_failure (attribute_name_check name ∷ value_check value ∷ row_check found ∷ lock_row_check found ∷ flag_check flag b ∷ [])
    setting_checks b b_is =
        λ i. first_failure (attribute_name_check name ∷ value_check value ∷ there t whole same x found is i ∷ unlocked t whole same x found is i ∷ flag_check flag ((present ∙ sym b_is) i) ∷ [])

    -- the name that is used once more
    used_is : name_used whole setting ≡ cond (is_some attr) None (Some name)
    used_is = ap (λ (b : Bool). cond b None (Some name)) present

    drawn_is : names_drawn whole setting ≡ cond (is_some (cond (is_some attr) None (Some name))) 1 0
    drawn_is = ap (λ (used : Option (List ℕ)). cond (is_some used) 1 0) used_is

    module _ (well : IsWellFormed whole) (row : Inode) (row_is : found ≡ Some row) (passes : first_failure (checks whole pass setting) ≡ None) where
      row_there : inode_at t x ≡ Some row
      row_there = sym is ∙ row_is

      replaced : (a : Attr) → attr ≡ Some a → IsPlanOf t whole pass setting now (plans.Commit (setting_attr row a.name_id value now) replies.Done [])
      replaced a a_is =
          let after : Tables = tables_after (setting_attr row a.name_id value now) t in
          let nameless : name_used whole setting ≡ None = used_is ∙ ap (λ (found : Option Attr). cond (is_some found) None (Some name)) a_is in
          let none : names_drawn whole setting ≡ 0 = ap (λ (used : Option (List ℕ)). cond (is_some used) 1 0) nameless in
          let step : IsStep t after (effect whole pass setting now) 0 =
          set_attribute_step t whole v.params row pass x now name v unique well same v.is_made row_there flag value a passes (sym attr_is ∙ a_is) in
          (passes, refl, subst (IsStep t after (effect whole pass setting now)) (sym none) step, refl, refl, IsWorn-nameless t whole setting nameless)

      module _ (new : attr ≡ None) where
        used : name_used whole setting ≡ Some name
        used = used_is ∙ ap (λ (found : Option Attr). cond (is_some found) None (Some name)) new

        worn_is : IsWorn t whole setting ≡ (raised t name ≡ None)
        worn_is = ap (λ (u : Option (List ℕ)). elim u as (λ _. Type 0) [ Some name ↦ raised t name ≡ None | None ↦ ⊥ ]) used

        added : (more : Raised) → raised t name ≡ Some more → IsPlanOf t whole pass setting now (plans.Commit (adding_attr row more value now) replies.Done [])
        added more more_is =
            let after : Tables = tables_after (adding_attr row more value now) t in
            let one : names_drawn whole setting ≡ 1 = ap (λ (u : Option (List ℕ)). cond (is_some u) 1 0) used in
            let step : IsStep t after (effect whole pass setting now) 1 =
            new_attribute_step t whole v.params row pass x now name v unique well same v.is_made row_there flag value more passes (sym attr_is ∙ new) more_is in
            let usable : IsWorn t whole setting → ⊥ = λ worn.
            let none : raised t name ≡ None = subst (λ (T : Type 0). T) worn_is worn in
            let clash : None ≡ Some more = sym none ∙ more_is in
            cc clash in (
              passes,
              refl,
              subst (IsStep t after (effect whole pass setting now)) (sym one) step,
              some_changes more.changes (changes.PutAttr (record { inode = row.id; name_id = more.id; value = value })) (changes.PutInode (stamped_row now row) ∷ []),
              refl,
              usable,
            )

      pub set_planned : (p : Plan) → IsSetting attr (raised t name) row value now p → IsPlanOf t whole pass (ops.Setxattr x name flag value) now p
      set_planned p made = by_attr attr refl made
        where
          by_use : attr ≡ None → (used : Option Raised) → raised t name ≡ used → IsAdding used row value now p → IsPlanOf t whole pass setting now p
          by_use new None worn own = subst (IsPlanOf t whole pass setting now) (sym own) (passes, subst (λ (T : Type 0). T) (sym (worn_is new)) worn)
          by_use new (Some more) more_is own = subst (IsPlanOf t whole pass setting now) (sym own) (added new more more_is)

          by_attr : (a : Option Attr) → attr ≡ a → IsSetting a (raised t name) row value now p → IsPlanOf t whole pass setting now p
          by_attr None new own = by_use new (raised t name) refl own
          by_attr (Some a) a_is own = subst (IsPlanOf t whole pass setting now) (sym own) (replaced a a_is)

  -- ---- Removexattr

  pub removal_checks : first_failure (checks whole pass (ops.Removexattr x name))
      ≡ first_failure (attribute_name_check name ∷ row_check found ∷ lock_row_check found ∷ attribute_check (option_map value_of attr) ∷ [])
  removal_checks =
      λ i. first_failure (attribute_name_check name ∷ there t whole same x found is i ∷ unlocked t whole same x found is i ∷ attribute_check (value_there i) ∷ [])

  pub removal_planned : IsWellFormed whole → (row : Inode) (a : Attr) (p : Plan) → found ≡ Some row → attr ≡ Some a → first_failure (checks whole pass (ops.Removexattr x name)) ≡ None
      → ((n : Name) → name_at t a.name_id ≡ Some n → p ≡ plans.Commit (removing_attr row a n now) replies.Done []) → IsPlanOf t whole pass (ops.Removexattr x name) now p
  removal_planned well row a p row_is a_is passes made =
      let named = IsAttrNamed_from_row t v.ordered.names name x a (sym attr_is ∙ a_is) in
      subst (IsPlanOf t whole pass (ops.Removexattr x name) now) (sym (made named.row named.named)) (
        passes,
        refl,
        removed_attribute_step t whole v.params row pass x now name v unique well same v.is_made (sym is ∙ row_is) a named.row passes (sym attr_is ∙ a_is) named.named,
        some_change (changes.DeleteAttr a.inode a.name_id) (changes.PutInode (stamped_row now row) ∷ lowered named.row),
        refl,
        IsWorn-nameless t whole (ops.Removexattr x name) refl,
      )
