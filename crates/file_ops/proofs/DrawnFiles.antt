-- Files of valid tables while objects are drawn, and where they end.
use Rattle.std.proofs.Common.{◌≡◌, ℕ, zero, suc, ◌+◌, ◌*◌, ◌≤◌, Option, None, Some, refl, sym, ap, ◌∙◌, subst}
use Rattle.s3_rows.specs.Keyed.{row_at}
use Rattle.s3_rows.specs.Rows.{Inode, Parameters}
use Rattle.s3_rows.specs.Tables.{Tables, by_inode}
use Rattle.s3_rows.specs.Validity.{IsValid}
use Rattle.core_model.specs.Safe.{IsPrepared, with_new_object, with_new_objects}
use Rattle.core_model.proofs.Prepared.{IsValid-with_new_objects}
use Rattle.byte_steps.specs.Changed.{EndsAt}
use Rattle.file_ops.specs.FileChanges.{IsFileAt}
use Rattle.file_ops.proofs.Drawn.{params-with_new_objects}
use Rattle.file_ops.proofs.FileForms.{no_form_past}

one_leaves_slots : (p : Option Parameters) (t : Tables) → (with_new_object p t).slots ≡ t.slots
one_leaves_slots None t = refl
one_leaves_slots (Some p) t = refl

slots-with_new_objects : (count : ℕ) (t : Tables) → (with_new_objects count t).slots ≡ t.slots
slots-with_new_objects zero t = refl
slots-with_new_objects (suc count) t = slots-with_new_objects count (with_new_object t.params t) ∙ one_leaves_slots t.params t

one_leaves_inodes : (p : Option Parameters) (t : Tables) → (with_new_object p t).inodes ≡ t.inodes
one_leaves_inodes None t = refl
one_leaves_inodes (Some p) t = refl

inodes-with_new_objects : (count : ℕ) (t : Tables) → (with_new_objects count t).inodes ≡ t.inodes
inodes-with_new_objects zero t = refl
inodes-with_new_objects (suc count) t = inodes-with_new_objects count (with_new_object t.params t) ∙ one_leaves_inodes t.params t

-- a file stays while objects are drawn
file_stays : (count : ℕ) (t : Tables) (file : Inode) (block_size : ℕ) → IsFileAt t file block_size → IsFileAt (with_new_objects count t) file block_size
file_stays count t file block_size there =
    let p : Parameters = there.valid.params in
    let valid : IsValid (with_new_objects count t) = IsValid-with_new_objects t count there.valid in
    let both : Some valid.params ≡ Some (record p { next_object = p.next_object + count }) = sym valid.is_made ∙ params-with_new_objects count t p there.valid.is_made in
    let same : valid.params ≡ record p { next_object = p.next_object + count } = cc both in
    record {
      valid = valid;
      slots = slots-with_new_objects count t ∙ there.slots;
      there = ap (row_at by_inode file.id) (inodes-with_new_objects count t) ∙ there.there;
      regular = there.regular;
      size = ap (λ (q : Parameters). q.block_size) same ∙ there.size;
    }

pub file_drawn : (before after : Tables) (file : Inode) (block_size : ℕ) → IsPrepared before after → IsFileAt before file block_size → IsFileAt after file block_size
file_drawn before after file block_size drawn there =
    subst (λ (t : Tables). IsFileAt t file block_size) (sym drawn.1) (file_stays drawn.0 before file block_size there)

-- a file ends with its length
pub file_ends : (t : Tables) (file : Inode) (block_size : ℕ) → IsFileAt t file block_size → EndsAt t file.id block_size file.size
file_ends t file block_size there n past =
    no_form_past t there.valid file file.id n there.there (subst (λ (size : ℕ). file.size ≤ n * size) (sym there.size) past)
