-- A row that was just put is found.
use Rattle.std.proofs.Common.{◌≡◌, ℕ, List, [], ◌∷◌, Bool, true, Option, None, Some, refl, sym, ap, ◌∙◌, subst}
use Rattle.std.specs.Prelude.{IsTrue, IsSome, is_some, option_map}
use Rattle.std.proofs.lemmas.Cmp.{nat_list_cmp_total}
use Rattle.std.specs.Cmp.{nat_cmp_total, tied_itself}
use Rattle.std.specs.Ordering.{is_eq}
use Rattle.s3_rows.specs.declared.change.Change.TheVariants as changes
use Rattle.s3_rows.specs.Rows.{Inode, Name}
use Rattle.s3_rows.specs.Tables.{by_inode, by_name}
use Rattle.s3_rows.specs.Selections.{inode_at, name_of_bytes, bytes_cmp}
use Rattle.s3_rows.specs.Told.{Told, IfTold, with_batch}
use Rattle.row_lemmas.proofs.Tests.{list_any-find}
use Rattle.row_lemmas.proofs.Keyed.Put.{list_any-put_true, row_at-put_same}

pub inode_found : (told after : Option Told) (id : ℕ) (r : Inode) (found : Option Inode) → r.id ≡ id → IsSome told → after ≡ option_map (with_batch (changes.PutInode r ∷ [])) told
    → IfTold after (λ t. found ≡ inode_at t id) → is_some found ≡ true
inode_found None after id r found number there is row = absurd (cc there)
inode_found (Some s) after id r found number there is row =
    let own : found ≡ inode_at (with_batch (changes.PutInode r ∷ []) s).tables id = subst (λ x. IfTold x (λ t. found ≡ inode_at t id)) is row in
    ap is_some (own ∙ ap (inode_at (with_batch (changes.PutInode r ∷ []) s).tables) (sym number)) ∙ ap is_some (row_at-put_same by_inode nat_cmp_total r s.tables.inodes)

is_there : {X Y : Type 0} (f : X → Y) (found : Option X) → is_some (option_map f found) ≡ is_some found
is_there f None = refl
is_there f (Some x) = refl

pub name_found : (told after : Option Told) (bytes : List ℕ) (r : Name) (found : Option ℕ) → bytes ≡ r.name → IsSome told → after ≡ option_map (with_batch (changes.PutName r ∷ [])) told
    → IfTold after (λ t. found ≡ option_map (λ n. n.id) (name_of_bytes t bytes)) → is_some found ≡ true
name_found None after bytes r found same there is row = absurd (cc there)
name_found (Some s) after bytes r found same there is row =
    let put_there : Told = with_batch (changes.PutName r ∷ []) s in
    let own : found ≡ option_map (λ (n : Name). n.id) (name_of_bytes put_there.tables bytes) = subst (λ x. IfTold x (λ t. found ≡ option_map (λ n. n.id) (name_of_bytes t bytes))) is row in
    let has : Name → Bool = λ n. is_eq (bytes_cmp n.name bytes) in
    let passes : IsTrue (has r) = ap (λ b. is_eq (bytes_cmp r.name b)) same ∙ ap is_eq (tied_itself nat_list_cmp_total r.name) in
    ap is_some own ∙ is_there (λ (n : Name). n.id) (name_of_bytes put_there.tables bytes) ∙ sym (list_any-find has put_there.tables.names) ∙ list_any-put_true by_name has r s.tables.names passes
