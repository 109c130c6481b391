use Rattle.std.proofs.Common.{◌≡◌, ◌≢◌, ℕ, List, ◌∷◌, false, Option, None, Some, refl, sym, ap, inl, inr, ◌∙◌}
use Rattle.std.specs.Prelude.{◌==◌, option_and_then}
use Rattle.std.proofs.lemmas.Bool.{cases_eq, ne_eqb}
use Rattle.op_frames.specs.declared.operation.Op.{Op}
use Rattle.op_frames.specs.declared.operation.Op.TheVariants as ops
use Rattle.plain_tree.specs.Tree.{Tree, Handle, handle_of, own_handle}
use Rattle.plain_tree.specs.Checks.{first_failure, open_check, read_length_check}
use Rattle.plain_tree.specs.Files.{open_file, file_at}
use Rattle.plain_tree.specs.Operations.{checks, handle_used}
use Rattle.plain_tree.proofs.Replies.{reply_at}
use Rattle.plain_tree.proofs.laws.other_handles_are_refused.Goals as goal

-- a handle of one pass is none of another
own_handle-other : (found : Option Handle) (pass other : ℕ) (opened : Handle) → own_handle other found ≡ Some opened → other ≢ pass → own_handle pass found ≡ None
own_handle-other None pass other opened is apart = refl
own_handle-other (Some handle) pass other opened is apart =
    elim (cases_eq handle.pass pass) [
      | inr not_own ↦ rw (ne_eqb handle.pass pass not_own) refl
      | inl own ↦
          let not_other : (handle.pass == other) ≡ false = ne_eqb handle.pass other (λ same. apart (sym same ∙ own)) in
          let none : None ≡ Some opened = rw not_other at is in
          absurd (cc none)
    ]

-- a check that fails, first or after another
fails_first : (check : Option ℕ) (errno : ℕ) (others : List (Option ℕ)) → check ≡ Some errno → (n : ℕ) × (first_failure (check ∷ others) ≡ Some n)
fails_first None errno others is = absurd (cc is)
fails_first (Some n) errno others is = (n, refl)

fails_second : (first check : Option ℕ) (errno : ℕ) (others : List (Option ℕ)) → check ≡ Some errno → (n : ℕ) × (first_failure (first ∷ check ∷ others) ≡ Some n)
fails_second None check errno others is = fails_first check errno others is
fails_second (Some n) check errno others is = (n, refl)

open_check-none : (t : Tree) (pass handle used : ℕ) → handle_of t pass handle ≡ None → Some used ≡ Some handle → open_check (open_file t pass used) ≡ Some 9
open_check-none t pass handle used none uses =
    let same : used ≡ handle = cc in
    let none_used : handle_of t pass used ≡ None = rw same none in
    ap (λ found. open_check (option_and_then (λ (h : Handle). file_at t h.inode) found)) none_used

fails : (t : Tree) (pass handle : ℕ) (op : Op) → handle_of t pass handle ≡ None → handle_used op ≡ Some handle → (n : ℕ) × (first_failure (checks t pass op) ≡ Some n)
fails t pass handle (ops.Release used) none uses = fails_first _ 9 _ (open_check-none t pass handle used none uses)
fails t pass handle (ops.Read used offset count) none uses = fails_second (read_length_check count) _ 9 _ (open_check-none t pass handle used none uses)
fails t pass handle (ops.Write used offset bytes) none uses = fails_first _ 9 _ (open_check-none t pass handle used none uses)
fails t pass handle (ops.Fsync used) none uses = fails_first _ 9 _ (open_check-none t pass handle used none uses)
fails t pass handle op none uses = absurd (cc uses)

pub returns : goal.returns
returns c = λ t pass other now handle op opened is apart uses.
    let found = fails t pass handle op (own_handle-other _ pass other opened is apart) uses in
    (record { 0 = found.0 }, reply_at t pass now op (Some found.0) found.1)
