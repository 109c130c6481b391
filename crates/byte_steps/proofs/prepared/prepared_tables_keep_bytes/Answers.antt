use Rattle.std.proofs.Common.{◌≡◌, ℕ, zero, suc, List, Option, None, Some, refl, sym, ◌∙◌, subst}
use Rattle.s3_rows.specs.Rows.{Block, Parameters}
use Rattle.s3_rows.specs.Stores.{AreHeld}
use Rattle.s3_rows.specs.Tables.{Tables}
use Rattle.tree_rows.specs.Contents.{HaveBytes}
use Rattle.core_model.specs.Safe.{HaveHeld, with_new_object, with_new_objects}
use Rattle.byte_steps.proofs.SameForms.{HasBytes-same_forms, IsExact-same_forms}
use Rattle.byte_steps.proofs.prepared.prepared_tables_keep_bytes.Goals as goal

one_object : (t : Tables) (params : Option Parameters) → (with_new_object params t).blocks ≡ t.blocks
one_object t None = refl
one_object t (Some p) = refl

blocks-with_new_objects : (t : Tables) (count : ℕ) → (with_new_objects count t).blocks ≡ t.blocks
blocks-with_new_objects t zero = refl
blocks-with_new_objects t (suc count) = blocks-with_new_objects (with_new_object t.params t) count ∙ one_object t t.params

pub returns-clause-blocks : goal.returns-clause-blocks
returns-clause-blocks c = blocks-with_new_objects

pub returns-clause-bytes : goal.returns-clause-bytes
returns-clause-bytes c =
    λ m t count over whole has.
    HasBytes-same_forms m t (with_new_objects count t) over whole
    (subst (λ (rows : List Block). HaveBytes m rows) (sym (blocks-with_new_objects t count)) has.fits) (c.prepared_tables_stay_valid.ensures.forms t count) has

pub returns-clause-exact : goal.returns-clause-exact
returns-clause-exact c =
    λ digest_of t count over whole exact.
    IsExact-same_forms digest_of t (with_new_objects count t) over whole (c.prepared_tables_stay_valid.ensures.forms t count) exact

pub returns-clause-held : goal.returns-clause-held
returns-clause-held c =
    λ m held t count all. subst (λ (rows : List Block). HaveHeld m held rows) (sym (blocks-with_new_objects t count)) all

pub returns-clause-stored : goal.returns-clause-stored
returns-clause-stored c =
    λ digest_of held t count all. subst (λ (rows : List Block). AreHeld digest_of held rows) (sym (blocks-with_new_objects t count)) all
