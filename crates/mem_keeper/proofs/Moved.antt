-- Rows that are filed, under changes that give no name that they use other bytes.
use Rattle.std.proofs.Common.{◌≡◌, ℕ, ◌<◌, List, [], ◌∷◌, Bool, true, false, ◌||◌, nat_lt, All, Option, None, Some, refl, sym, ap, ◌∙◌, subst, arith}
use Rattle.std.specs.Prelude.{IsTrue, IsSome, IfSome}
use Rattle.std.specs.List.{AllByRecursion}
use Rattle.std.specs.BTreeMap.{get}
use Rattle.std.specs.FinMap.{nat_cmp-IsAntisymmetric}
use Rattle.std.specs.Ordering.{is_eq}
use Rattle.std.proofs.lemmas.Bool.{ltb-true, or_cases}
use Rattle.std.proofs.lemmas.Cmp.{nat_cmp_total, nat_list_cmp_total, tied_itself}
use Rattle.std.proofs.lemmas.List.Elements.{All-from_recursion, recursion_from_All, All-weaker}
use Rattle.s3_rows.specs.declared.change.Change.{Change}
use Rattle.s3_rows.specs.declared.change.Change.TheVariants as changes
use Rattle.s3_rows.specs.Rows.{Name, Content, Attr}
use Rattle.s3_rows.specs.Keyed.{rises, row_at}
use Rattle.s3_rows.specs.Tables.{Tables, by_name, by_entry, by_attr}
use Rattle.s3_rows.specs.Batches.{after_change, tables_after}
use Rattle.s3_rows.specs.Selections.{bytes_cmp}
use Rattle.row_lemmas.proofs.Tests.{equal_from_is_eq}
use Rattle.row_lemmas.proofs.Keyed.RowAt.{row_at_key, row_at_meets, row_at_own}
use Rattle.mem_keeper.specs.declared.filing.Filing.{Filing}
use Rattle.mem_keeper.specs.Index.{row_has_bytes}
use Rattle.mem_keeper.specs.Indexes.{bytes_of_name}
use Rattle.mem_keeper.specs.Filed.{place_cmp, IsFiled, StayFiled, AllFiled, keeps_bytes, entry_put, attr_put, IsMoved}
use Rattle.mem_keeper.proofs.Apart.{bytes_equal}
use Rattle.mem_keeper.proofs.Ranges.{All-put, All-without}
use mathlib.Core.Logic.{⊎_elim}

-- ---- what holds of all rows and of those that are put

module _ (P : Name → Type 0) (Q : Change → Type 0) (told : (n : Name) → Q (changes.PutName n) → P n) where
  names_after_change : (c : Change) (t : Tables) → Q c → All P t.names → All P (after_change c t).names
  names_after_change (changes.PutName n) t is all = All-put by_name P n t.names (told n is) all
  names_after_change (changes.DeleteName id) t is all = All-without by_name P id t.names all
  names_after_change _ t is all = all

  names_after : (cs : List Change) (t : Tables) → AllByRecursion Q cs → All P t.names → All P (tables_after cs t).names
  names_after [] t each all = all
  names_after (c ∷ cs) t each all = names_after cs (after_change c t) each.1 (names_after_change c t each.0 all)

module _ (P : Content → Type 0) where
  entries_after_change : (c : Change) (t : Tables) → IfSome (entry_put c) P → All P t.contents → All P (after_change c t).contents
  entries_after_change (changes.PutContent r) t is all = All-put by_entry P r t.contents is all
  entries_after_change (changes.DeleteContent parent name_id) t is all = All-without by_entry P (parent, name_id) t.contents all
  entries_after_change _ t is all = all

  entries_after : (cs : List Change) (t : Tables) → AllByRecursion (λ c. IfSome (entry_put c) P) cs → All P t.contents
      → All P (tables_after cs t).contents
  entries_after [] t each all = all
  entries_after (c ∷ cs) t each all = entries_after cs (after_change c t) each.1 (entries_after_change c t each.0 all)

module _ (P : Attr → Type 0) where
  attrs_after_change : (c : Change) (t : Tables) → IfSome (attr_put c) P → All P t.attrs → All P (after_change c t).attrs
  attrs_after_change (changes.PutAttr r) t is all = All-put by_attr P r t.attrs is all
  attrs_after_change (changes.DeleteAttr inode name_id) t is all = All-without by_attr P (inode, name_id) t.attrs all
  attrs_after_change _ t is all = all

  attrs_after : (cs : List Change) (t : Tables) → AllByRecursion (λ c. IfSome (attr_put c) P) cs → All P t.attrs
      → All P (tables_after cs t).attrs
  attrs_after [] t each all = all
  attrs_after (c ∷ cs) t each all = attrs_after cs (after_change c t) each.1 (attrs_after_change c t each.0 all)

-- ---- names of which none that is used has other bytes

or_right : (a b : Bool) → b ≡ true → (a || b) ≡ true
or_right true b e = refl
or_right false b e = e

module _ (used : ℕ) (old : List Name) where
  abbrev Known : Name → Type 0
  Known n = IsTrue (keeps_bytes used old (changes.PutName n))

  known_itself : (ns : List Name) → AllByRecursion (λ n. row_at by_name n.id old ≡ Some n) ns → AllByRecursion Known ns
  known_itself [] own = tt
  known_itself (n ∷ ns) own = (
    or_right (nat_lt used n.id) (row_has_bytes by_name bytes_of_name old n.name n.id)
        (ap (λ v. elim v [ None ↦ false | Some m ↦ is_eq (bytes_cmp m.name n.name) ]) own.0 ∙ ap is_eq (tied_itself nat_list_cmp_total n.name)),
    known_itself ns own.1,
  )

  known_after : (cs : List Change) (t : Tables) → t.names ≡ old → IsTrue (rises by_name old)
      → All (λ c. IsTrue (keeps_bytes used old c)) cs → All Known (tables_after cs t).names
  known_after cs t same up each =
      names_after Known (λ c. IsTrue (keeps_bytes used old c)) (λ n is. is) cs t (recursion_from_All (λ c. IsTrue (keeps_bytes used old c)) cs each)
      (subst (All Known) (sym same) (All-from_recursion Known old (known_itself old (row_at_own by_name nat_cmp_total old up))))

-- a row that is filed by the bytes of before is so by those of now
renamed : (x y : Filing) (old new : List Name) → StayFiled x y → All (Known x.used old) new → (key : ℕ × ℕ)
    → IsFiled x old key → IsFiled y new key
renamed x y old new stays known key filed = record {
  used = omega (arith, stays.used, filed.used);
  placed = by_row (row_at by_name key.1 new) refl;
}
  where
    by_old : (n : Name) (v : Option Name) → row_at by_name n.id old ≡ v → n.id ≡ key.1
        → elim v [ None ↦ false | Some m ↦ is_eq (bytes_cmp m.name n.name) ] ≡ true
        → IsSome (get place_cmp y.places ((key.0, n.name), key.1))
    by_old n None is id has = absurd (cc has)
    by_old n (Some m) is id has =
        let at : row_at by_name key.1 old ≡ Some m = ap (λ i. row_at by_name i old) (sym id) ∙ is in
        let name : m.name ≡ n.name = bytes_equal m.name n.name (equal_from_is_eq (bytes_cmp m.name n.name) has) in
        stays.places ((key.0, n.name), key.1)
        (subst (λ b. IsSome (get place_cmp x.places ((key.0, b), key.1))) name
        (subst (λ v. IfSome v (λ o. IsSome (get place_cmp x.places ((key.0, o.name), key.1)))) at filed.placed))

    by_row : (v : Option Name) → row_at by_name key.1 new ≡ v
        → IfSome v (λ n. IsSome (get place_cmp y.places ((key.0, n.name), key.1)))
    by_row None is = tt
    by_row (Some n) is =
        let id : n.id ≡ key.1 = sym (nat_cmp-IsAntisymmetric key.1 n.id (row_at_key by_name key.1 new n is)) in
        let tells : Known x.used old n = row_at_meets by_name (Known x.used old) key.1 new n (recursion_from_All (Known x.used old) new known) is in
        ⊎_elim
        (λ past.
        let above : x.used < n.id = ltb-true x.used n.id past in
        absurd (omega (arith, above, id, filed.used)))
        (λ has. by_old n (row_at by_name n.id old) refl id has)
        (or_cases (nat_lt x.used n.id) (row_has_bytes by_name bytes_of_name old n.name n.id) tells)

-- ---- after a batch

pub moved_entries : (x : Filing) (cs : List Change) (t : Tables) → IsTrue (rises by_name t.names)
    → AllFiled by_entry.key x t.names t.contents → All (λ c. IsTrue (keeps_bytes x.used t.names c)) cs
    → IsMoved by_entry.key entry_put x (tables_after cs t).names cs (tables_after cs t).contents
moved_entries x cs t up filed each = λ y stays puts.
    let new : List Name = (tables_after cs t).names in
    entries_after (λ r. IsFiled y new (by_entry.key r)) cs t (recursion_from_All (λ c. IfSome (entry_put c) (λ r. IsFiled y new (by_entry.key r))) cs puts)
    (All-weaker (λ r. IsFiled x t.names (by_entry.key r)) (λ r. IsFiled y new (by_entry.key r)) (λ r is. renamed x y t.names new stays (known_after x.used t.names cs t refl up each) (by_entry.key r) is) t.contents filed)

pub moved_attrs : (x : Filing) (cs : List Change) (t : Tables) → IsTrue (rises by_name t.names)
    → AllFiled by_attr.key x t.names t.attrs → All (λ c. IsTrue (keeps_bytes x.used t.names c)) cs
    → IsMoved by_attr.key attr_put x (tables_after cs t).names cs (tables_after cs t).attrs
moved_attrs x cs t up filed each = λ y stays puts.
    let new : List Name = (tables_after cs t).names in
    attrs_after (λ r. IsFiled y new (by_attr.key r)) cs t (recursion_from_All (λ c. IfSome (attr_put c) (λ r. IsFiled y new (by_attr.key r))) cs puts)
    (All-weaker (λ r. IsFiled x t.names (by_attr.key r)) (λ r. IsFiled y new (by_attr.key r)) (λ r is. renamed x y t.names new stays (known_after x.used t.names cs t refl up each) (by_attr.key r) is) t.attrs filed)
