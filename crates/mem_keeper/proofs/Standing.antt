-- How a batch keeps the indexes.
use Rattle.std.proofs.Common.{Result, Ok, Err, IfOk, ◌≡◌, ℕ, List, [], ◌∷◌, Bool, true, false, None, Some, cond, refl, sym, subst, ◌∙◌}
use Rattle.std.specs.List.{AllByRecursion}
use Rattle.std.specs.declared.cmp.Ordering.TheVariants.{Equal}
use Rattle.std.specs.Ordering.{is_eq, nat_cmp}
use Rattle.std.specs.Cmp.{IsTotalOrder, nat_cmp_total}
use Rattle.s3_rows.specs.declared.change.Change.{Change}
use Rattle.s3_rows.specs.declared.change.Change.TheVariants as changes
use Rattle.std.proofs.lemmas.Cmp.{ranked}
use Rattle.s3_rows.specs.Keyed.{Order, put, without, row_at, has_key}
use Rattle.s3_rows.specs.Tables.{Tables, by_entry}
use Rattle.row_lemmas.proofs.Tables.{pair_cmp_total}
use Rattle.s3_rows.specs.Batches.{after_change, tables_after}
use Rattle.row_lemmas.proofs.Tests.{equal_from_is_eq}
use Rattle.row_lemmas.proofs.Keyed.Put.{row_at-put}
use Rattle.row_lemmas.proofs.Keyed.Without.{row_at-without}
use Rattle.mem_keeper.specs.declared.indexes.Indexes.{Indexes}
use Rattle.mem_keeper.specs.Index.{IsListed}
use Rattle.mem_keeper.specs.Holders.{IsHolder}
use Rattle.mem_keeper.specs.Indexes.{Stand, IsListedChange, StayListed}

pub change_stays : (x y : Indexes) → StayListed x y → (c : Change) → IsListedChange x c → IsListedChange y c
change_stays x y kept (changes.PutName r) h = kept.names r.name r.id h
change_stays x y kept (changes.PutBlock r) h = kept.blocks r.digest.0 r.id h
change_stays x y kept (changes.PutContent r) h = kept.holders r h
change_stays x y kept _ h = h

pub stays_joined : (x y z : Indexes) → StayListed x y → StayListed y z → StayListed x z
stays_joined x y z a b = record { names = λ bytes id h. b.names bytes id (a.names bytes id h); blocks = λ bytes id h. b.blocks bytes id (a.blocks bytes id h); holders = λ r h. b.holders r (a.holders r h) }

pub stand_stays : (x y : Indexes) (t : Tables) → StayListed x y → Stand x t → Stand y t
stand_stays x y t kept h = record { names = λ id r there. kept.names _ _ (h.names id r there); blocks = λ id r there. kept.blocks _ _ (h.blocks id r there); holders = λ k r there. kept.holders r (h.holders k r there) }

-- ---- what holds of the row of each id

module _ {R : Type 0} (key : R → ℕ) (P : ℕ → R → Type 0) where
  abbrev by_key : Order ℕ R
  by_key = record { compare = nat_cmp; key = key }

  abbrev AllAt : List R → Type 0
  AllAt rows = (id : ℕ) (r : R) → row_at by_key id rows ≡ Some r → P id r

  pub all_at_put : (r : R) (rows : List R) → P (key r) r → AllAt rows → AllAt (put by_key r rows)
  all_at_put r rows here all id s found = by_case (has_key by_key id r) refl (sym (row_at-put by_key nat_cmp_total id r rows) ∙ found)
    where
      by_case : (b : Bool) → has_key by_key id r ≡ b → cond b (Some r) (row_at by_key id rows) ≡ Some s → P id s
      by_case true is same =
          let one : r ≡ s = cc same in
          let own : key r ≡ id = sym (ranked id (key r) Equal (sym (equal_from_is_eq (nat_cmp id (key r)) is))) in
          subst (P id) one (subst (λ n. P n r) own here)
      by_case false is old = all id s old

  pub all_at_without : (k : ℕ) (rows : List R) → AllAt rows → AllAt (without by_key k rows)
  all_at_without k rows all id s found = by_case (is_eq (nat_cmp k id)) (sym (row_at-without by_key nat_cmp_total k id rows) ∙ found)
    where
      by_case : (b : Bool) → cond b None (row_at by_key id rows) ≡ Some s → P id s
      by_case true gone = absurd (cc gone)
      by_case false old = all id s old

-- ---- what holds of each row that is found

module _ {K R : Type 0} (o : Order K R) (total : IsTotalOrder o.compare) (P : R → Type 0) where
  abbrev AllRows : List R → Type 0
  AllRows rows = (k : K) (r : R) → row_at o k rows ≡ Some r → P r

  all_rows_put : (r : R) (rows : List R) → P r → AllRows rows → AllRows (put o r rows)
  all_rows_put r rows here all k s found = by_case (has_key o k r) (sym (row_at-put o total k r rows) ∙ found)
    where
      by_case : (b : Bool) → cond b (Some r) (row_at o k rows) ≡ Some s → P s
      by_case true same =
          let one : r ≡ s = cc same in
          subst P one here
      by_case false old = all k s old

  all_rows_without : (j : K) (rows : List R) → AllRows rows → AllRows (without o j rows)
  all_rows_without j rows all k s found = by_case (is_eq (o.compare j k)) (sym (row_at-without o total j k rows) ∙ found)
    where
      by_case : (b : Bool) → cond b None (row_at o k rows) ≡ Some s → P s
      by_case true gone = absurd (cc gone)
      by_case false old = all k s old

-- ---- the indexes stand after changes whose rows are listed

pub stand_after : (x : Indexes) (c : Change) (t : Tables) → Stand x t → IsListedChange x c
    → Stand x (after_change c t)
stand_after x (changes.PutName r) t h listed = record { names = all_at_put (λ s. s.id) (λ id s. IsListed x.names s.name id) r t.names listed h.names; blocks = h.blocks; holders = h.holders }
stand_after x (changes.DeleteName id) t h listed = record { names = all_at_without (λ s. s.id) (λ n s. IsListed x.names s.name n) id t.names h.names; blocks = h.blocks; holders = h.holders }
stand_after x (changes.PutBlock r) t h listed = record { names = h.names; blocks = all_at_put (λ s. s.id) (λ id s. IsListed x.blocks s.digest.0 id) r t.blocks listed h.blocks; holders = h.holders }
stand_after x (changes.DeleteBlock id) t h listed = record { names = h.names; blocks = all_at_without (λ s. s.id) (λ n s. IsListed x.blocks s.digest.0 n) id t.blocks h.blocks; holders = h.holders }
stand_after x (changes.PutContent r) t h listed = record { names = h.names; blocks = h.blocks; holders = all_rows_put by_entry pair_cmp_total (IsHolder x.holders) r t.contents listed h.holders }
stand_after x (changes.DeleteContent parent name_id) t h listed = record { names = h.names; blocks = h.blocks; holders = all_rows_without by_entry pair_cmp_total (IsHolder x.holders) (parent, name_id) t.contents h.holders }
stand_after x _ t h listed = record { names = h.names; blocks = h.blocks; holders = h.holders }

pub stand_after_all : (x : Indexes) (cs : List Change) (t : Tables) → Stand x t → AllByRecursion (IsListedChange x) cs
    → Stand x (tables_after cs t)
stand_after_all x [] t h all = h
stand_after_all x (c ∷ cs) t h all = stand_after_all x cs (after_change c t) (stand_after x c t h all.0) all.1

-- what follows of the value of an `Ok`
pub if_ok_at : {X E : Type 0} (r : Result X E) (P Q : X → Type 0) → ((x : X) → P x → Q x) → IfOk r P → IfOk r Q
if_ok_at (Ok x) P Q f h = f x h
if_ok_at (Err e) P Q f h = tt
