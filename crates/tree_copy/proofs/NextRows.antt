-- What comes for the copy of a node, one part after the other, and its entry.
use Rattle.std.proofs.Common.{◌≡◌, ℕ, List, [], ◌∷◌, ◌++◌, Bool, true, Option, None, Some, refl, sym, ap, ◌∙◌, subst, append_assoc}
use Rattle.std.specs.Prelude.{◌&&◌}
use Rattle.s3_rows.specs.declared.change.Change.{Change}
use Rattle.s3_rows.specs.declared.change.Change.TheVariants as changes
use Rattle.s3_rows.specs.declared.lists.NamedAttr.{NamedAttr}
use Rattle.s3_rows.specs.Batches.{tables_after}
use Rattle.s3_rows.specs.Rows.{Inode, Parameters, Target}
use Rattle.s3_rows.specs.Selections.{named_attrs, target_at}
use Rattle.s3_rows.specs.Tables.{IsOrdered, Tables}
use Rattle.s3_rows.specs.Validity.{HasUniqueNames}
use Rattle.row_lemmas.proofs.Tables.{tables_after-tables_after}
use Rattle.ref_counts.specs.Names.{IsRaised, Raised, StaysUnique, raised}
use Rattle.tree_copy.specs.CopiedNames.{may_draw}
use Rattle.tree_copy.specs.CopiedRows.{attrs_copied, attrs_fit, copied_row, drawing, node_copied, node_fits, row_copied, target_copied, with_use}
use Rattle.tree_copy.proofs.NextAttrs.{StaysUnique-append, StaysUnique-use, unique_end, use_added}

-- the number, the target and the row
pub row_added : (batch one two after : List Change) (told t : Tables) (id now : ℕ) (r : Inode) → one ≡ batch ++ drawing t.params
    → two ≡ one ++ target_copied id (target_at told r.id) → after ≡ two ++ changes.PutInode (copied_row id now r) ∷ []
    → after ≡ batch ++ row_copied told id now r t
row_added batch one two after told t id now r first second third =
    let a : List Change = drawing t.params in
    let b : List Change = target_copied id (target_at told r.id) in
    let c : List Change = changes.PutInode (copied_row id now r) ∷ [] in
    third ∙ ap (λ (l : List Change). l ++ c) (second ∙ ap (λ (l : List Change). l ++ b) first ∙ append_assoc batch a b) ∙ append_assoc batch (a ++ b) c

-- they leave names alone
unique_row : (p : Option Parameters) (x : Option Target) (id : ℕ) (r : Inode) (u : Tables) → HasUniqueNames u
    → StaysUnique (drawing p ++ target_copied id x ++ changes.PutInode r ∷ []) u
unique_row None None id r u unique = (unique, unique)
unique_row None (Some x) id r u unique = (unique, (unique, unique))
unique_row (Some p) None id r u unique = (unique, (unique, unique))
unique_row (Some p) (Some x) id r u unique = (unique, (unique, (unique, unique)))

pub row_unique : (batch after : List Change) (t : Tables) (id now : ℕ) (r : Inode) → StaysUnique batch t
    → after ≡ batch ++ row_copied t id now r (tables_after batch t) → StaysUnique after t
row_unique batch after t id now r unique added =
    let u : Tables = tables_after batch t in
    subst (λ (b : List Change). StaysUnique b t) (sym added)
    (StaysUnique-append batch (row_copied t id now r u) t unique (unique_row u.params (target_at t r.id) id (copied_row id now r) u (unique_end batch t unique)))

-- the tables after the row
after_row : (batch after : List Change) (t : Tables) (id now : ℕ) (r : Inode) → after ≡ batch ++ row_copied t id now r (tables_after batch t)
    → tables_after after t ≡ tables_after (row_copied t id now r (tables_after batch t)) (tables_after batch t)
after_row batch after t id now r added =
    ap (λ (b : List Change). tables_after b t) added ∙ sym (tables_after-tables_after batch (row_copied t id now r (tables_after batch t)) t)

-- the attributes fit behind the row
pub attrs_fit_too : (batch after : List Change) (t : Tables) (id now : ℕ) (r : Inode) (fits : Bool) → true ≡ may_draw (tables_after batch t).params
    → after ≡ batch ++ row_copied t id now r (tables_after batch t) → fits ≡ attrs_fit id (named_attrs t r.id) (tables_after after t)
    → fits ≡ (may_draw (tables_after batch t).params && node_fits t id now r (tables_after batch t))
attrs_fit_too batch after t id now r fits draws added is =
    is ∙ ap (attrs_fit id (named_attrs t r.id)) (after_row batch after t id now r added)
    ∙ ap (λ b. b && node_fits t id now r (tables_after batch t)) draws

-- and come behind it
pub node_added : (batch middle after : List Change) (t : Tables) (id now : ℕ) (r : Inode) → middle ≡ batch ++ row_copied t id now r (tables_after batch t)
    → after ≡ middle ++ attrs_copied id (named_attrs t r.id) (tables_after middle t) → after ≡ batch ++ node_copied t id now r (tables_after batch t)
node_added batch middle after t id now r row attrs =
    let u : Tables = tables_after batch t in
    let own : List NamedAttr = named_attrs t r.id in
    attrs ∙ ap (λ (u2 : Tables). middle ++ attrs_copied id own u2) (after_row batch middle t id now r row)
    ∙ ap (λ (b : List Change). b ++ attrs_copied id own (tables_after (row_copied t id now r u) u)) row
    ∙ append_assoc batch (row_copied t id now r u) (attrs_copied id own (tables_after (row_copied t id now r u) u))

-- ---- the entry

pub entry_added : (found : Option Raised) (before middle after : List Change) (id directory copy : ℕ) → IsRaised found before (Some id) middle
    → after ≡ middle ++ changes.PutContent (record { parent = directory; name_id = id; inode = copy }) ∷ []
    → after ≡ before ++ with_use found (λ name_id. changes.PutContent (record { parent = directory; name_id = name_id; inode = copy }) ∷ [])
entry_added found before middle after id directory copy = use_added found before middle after id (λ k. changes.PutContent (record { parent = directory; name_id = k; inode = copy }))

pub entry_unique : (t : Tables) (before middle after : List Change) (name : List ℕ) (id directory copy : ℕ) → IsOrdered t → StaysUnique before t
    → IsRaised (raised (tables_after before t) name) before (Some id) middle
    → after ≡ middle ++ changes.PutContent (record { parent = directory; name_id = id; inode = copy }) ∷ [] → StaysUnique after t
entry_unique t before middle after name id directory copy o unique is added =
    by_case (raised (tables_after before t) name) refl is
  where
    row : ℕ → Change
    row k = changes.PutContent (record { parent = directory; name_id = k; inode = copy })

    by_case : (found : Option Raised) → raised (tables_after before t) name ≡ found → IsRaised found before (Some id) middle → StaysUnique after t
    by_case None used raise = absurd (cc raise.0)
    by_case (Some more) used raise =
        subst (λ (b : List Change). StaysUnique b t) (sym (use_added (Some more) before middle after id row raise added))
        (StaysUnique-use t before name more (row more.id) o unique used (λ u same. same))
