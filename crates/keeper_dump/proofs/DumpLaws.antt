-- The laws of a dump: what is read from some bytes has these bytes as its dump, and each dump is read again.
use Rattle.std.proofs.Common.{◌≡◌, ℕ, ◌-◌, ◌^◌, ◌<◌, ◌≤◌, true, ◌&&◌, eqb, ltb, leb, List, [], ◌∷◌, ◌++◌, length, Option, None, Some, IfOk, Result, Ok, Err, refl, sym, ap, subst, ◌∙◌, append_assoc, arith}
use Rattle.std.specs.Int.{w64}
use Rattle.std.proofs.lemmas.Bool.{and_parts, leb-true, eqb-true}
use Rattle.std.proofs.lemmas.List.{append-nil}
use Rattle.s3_rows.specs.Rows.{Parameters}
use Rattle.s3_rows.specs.Tables.{Tables}
use Rattle.frame_fields.specs.declared.fault.FrameFault.{FrameFault}
use Rattle.frame_fields.specs.Format.{Rest, ◌>>=◌, number, between}
use Rattle.frame_fields.proofs.Within.{cond_has}
use Rattle.frame_fields.proofs.Formats.{IsBytes, Took, number64_is}
use Rattle.keeper_dump.specs.declared.fault.DumpFault.{DumpFault}
use Rattle.keeper_dump.specs.declared.fault.DumpFault.TheVariants as faults
use Rattle.keeper_dump.specs.Part.{Answers, of_field, ◌⟫◌}
use Rattle.keeper_dump.specs.RowFields.{inode_rows, name_rows, content_rows, inode_block_rows, block_rows, object_rows, target_rows, attr_rows, slot_rows, parameters_field}
use Rattle.keeper_dump.specs.Dump.{magic, magic_field, tables_behind, with_parameters, tables_part, TableParts, DumpParts, dump_part, dump_parts, tables_of, spelled_with, allowed_with, dump_of, is_dumped, at_start, ended, ended_tables, parts_read, dump_read}
use Rattle.keeper_dump.proofs.PartLaws.{Holds, Holds-then, IsPart, plain_is, ◌and_then◌, table_is}
use Rattle.keeper_dump.proofs.RowLaws.{parameters_is, inode_is, name_row_is, content_is, inode_block_is, block_is, object_is, target_is, attr_is, slot_is}

tables_is : IsPart tables_part
unfolding tables_part
tables_is =
    table_is inode_rows 52 inode_is and_then table_is name_rows 273 name_row_is and_then table_is content_rows 24 content_is
    and_then table_is inode_block_rows 24 inode_block_is and_then table_is block_rows 60 block_is and_then table_is object_rows 20 object_is
    and_then table_is target_rows 4105 target_is and_then table_is attr_rows 65556 attr_is and_then table_is slot_rows 32 slot_is

dump_is : IsPart dump_part
unfolding dump_part magic_field
dump_is = plain_is magic_field 8 (number64_is (between magic magic)) and_then plain_is parameters_field 61 parameters_is and_then tables_is

-- the magic is one number
magic_is : (x : DumpParts) → dump_part.allows x ≡ true → magic ≡ x.0
unfolding dump_part magic_field
magic_is x h =
    let parts = and_parts ((number w64 (between magic magic)).allows x.0) (parameters_field.allows x.1.0 && tables_part.allows x.1.1) h in
    let both = and_parts (leb magic x.0) (leb x.0 magic) (and_parts (ltb x.0 (2 ^ 64)) (between magic magic x.0) parts.0).1 in
    let least : magic ≤ x.0 = leb-true magic x.0 both.0 in
    let most : x.0 ≤ magic = leb-true x.0 magic both.1 in
    omega (arith, least, most)

nothing_left : (bytes : List ℕ) → length bytes ≡ 0 → bytes ≡ []
nothing_left [] none = refl
nothing_left (b ∷ bytes) none = absurd (omega (arith, none))

-- the tables have these bytes as their dump
pub record IsDump (bytes : List ℕ) (t : Tables) : Type 0 where
  pub allowed : is_dumped t ≡ true
  pub spelled : bytes ≡ dump_of t

tables_dumped : (bytes : List ℕ) (x : DumpParts × Rest) → dump_part.allows x.0 ≡ true → Took (dump_part.spell x.0) (at_start bytes) x.1
    → Holds (IsDump bytes) (ended x)
unfolding is_dumped dump_of
tables_dumped bytes x h took =
    cond_has (Holds (IsDump bytes)) (eqb (length x.1.bytes) 0) (Ok (tables_of x.0)) (Err (faults.Bad x.1.place))
    (λ none.
    let same : (magic, x.0.1) ≡ x.0 = ap (λ (n : ℕ). (n, x.0.1)) (magic_is x.0 h) in
    let all : bytes ≡ dump_part.spell x.0 = took.parts ∙ ap (λ (b : List ℕ). dump_part.spell x.0 ++ b) (nothing_left x.1.bytes (eqb-true (length x.1.bytes) 0 none)) ∙ append-nil (dump_part.spell x.0) in
    record { allowed = ap (λ z. dump_part.allows z) same ∙ h; spelled = all ∙ ap (λ z. dump_part.spell z) (sym same) })
    (λ some. tt)

pub dump_taken : (bytes : List ℕ) → IsBytes bytes → Holds (IsDump bytes) (dump_read bytes)
unfolding dump_read
dump_taken bytes fits =
    Holds-then (λ (x : DumpParts × Rest). (dump_part.allows x.0 ≡ true) × Took (dump_part.spell x.0) (at_start bytes) x.1) (IsDump bytes)
    (dump_part.read (at_start bytes)) ended (dump_is.takes (at_start bytes) fits) (λ x h. tables_dumped bytes x h.0 h.1)

parts_again : (p : Parameters) (t : Tables) → dump_part.allows (dump_parts p t) ≡ true → length (dump_part.spell (dump_parts p t)) ≤ 2 ^ 64 - 1
    → dump_read (dump_part.spell (dump_parts p t)) ≡ Ok (record t { params = Some p })
unfolding dump_read
parts_again p t h le =
    let s = dump_part.spell (dump_parts p t) in
    ap (λ (b : List ℕ). dump_part.read (at_start b) ⟫ ended) (sym (append-nil s))
    ∙ ap (λ (z : Result (DumpParts × Rest) DumpFault). z ⟫ ended) (dump_is.again (dump_parts p t) 0 (2 ^ 64 - 1) [] h le)

pub dump_again : (t : Tables) → is_dumped t ≡ true → length (dump_of t) ≤ 2 ^ 64 - 1 → dump_read (dump_of t) ≡ Ok t
unfolding is_dumped dump_of
dump_again t = by_case t.params
  where
    by_case : (o : Option Parameters) → allowed_with o t ≡ true → length (spelled_with o t) ≤ 2 ^ 64 - 1
        → dump_read (spelled_with o t) ≡ Ok (record t { params = o })
    by_case None h le = absurd (cc h)
    by_case (Some p) h le = parts_again p t h le

-- ---- what a reader promises

result_found : (bytes : List ℕ) (result : Result Tables DumpFault) → IsBytes bytes → Answers (λ t. t) result (dump_read bytes) → IfOk result (IsDump bytes)
result_found bytes (Ok t) fits given = subst (Holds (IsDump bytes)) given (dump_taken bytes fits)
result_found bytes (Err e) fits given = tt

pub dump_allowed : (bytes : List ℕ) (result : Result Tables DumpFault) → IsBytes bytes → Answers (λ t. t) result (dump_read bytes)
    → IfOk result (λ t. is_dumped t ≡ true)
dump_allowed bytes (Ok t) fits given = (result_found bytes (Ok t) fits given).allowed
dump_allowed bytes (Err e) fits given = tt

pub dump_found : (bytes : List ℕ) (result : Result Tables DumpFault) → IsBytes bytes → Answers (λ t. t) result (dump_read bytes)
    → IfOk result (λ t. bytes ≡ dump_of t)
dump_found bytes (Ok t) fits given = (result_found bytes (Ok t) fits given).spelled
dump_found bytes (Err e) fits given = tt

pub dump_only : (bytes : List ℕ) (result : Result Tables DumpFault) → length bytes < 2 ^ 64 → Answers (λ t. t) result (dump_read bytes)
    → (t : Tables) → is_dumped t ≡ true → bytes ≡ dump_of t → Answers (λ t. t) result (Ok t)
dump_only bytes result short given t h e =
    let len : length bytes ≡ length (dump_of t) = ap (λ (b : List ℕ). length b) e in
    subst (Answers (λ t. t) result) (ap dump_read e ∙ dump_again t h (omega (arith, len, short))) given

-- ---- what a writer wrote

-- texts one behind the other, the middle four together
pub joined : (nothing one two three all m p a b c d e : List ℕ) → nothing ≡ [] → one ≡ nothing ++ m → two ≡ one ++ p
    → three ≡ two ++ (a ++ (b ++ (c ++ d))) → all ≡ three ++ e → all ≡ m ++ (p ++ (a ++ (b ++ (c ++ (d ++ e)))))
joined nothing one two three all m p a b c d e none first second third last =
    let start : one ≡ m = first ∙ ap (λ (x : List ℕ). x ++ m) none in
    let middle : three ≡ (m ++ p) ++ (a ++ (b ++ (c ++ d))) = third ∙ ap (λ (x : List ℕ). x ++ (a ++ (b ++ (c ++ d)))) (second ∙ ap (λ (x : List ℕ). x ++ p) start) in
    last ∙ ap (λ (x : List ℕ). x ++ e) middle ∙ simp append_assoc

pub dump_spelled : (t : Tables) (p : Parameters) → t.params ≡ Some p → dump_part.spell (dump_parts p t) ≡ dump_of t
unfolding dump_of
dump_spelled t p e = ap (λ (o : Option Parameters). spelled_with o t) (sym e)

-- ---- what a reader read

abbrev pair_with : {A B : Type 0} → A → B × Rest → Result ((A × B) × Rest) DumpFault
pair_with a y = Ok ((a, y.0), y.1)

-- the tables behind the parameters, and these beside them
abbrev paired_behind : Parameters × Rest → Result ((Parameters × TableParts) × Rest) DumpFault
paired_behind x = tables_part.read x.1 ⟫ pair_with x.0

-- the parts, read one behind the other, and then the end
pub read_by_parts : (bytes : List ℕ) → dump_read bytes ≡ parts_read bytes
unfolding dump_read dump_part
read_by_parts bytes = head (magic_field.read (at_start bytes))
  where
    tables : (m : ℕ) (p : Parameters) (x : Result (TableParts × Rest) DumpFault)
        → (((x ⟫ pair_with p) ⟫ pair_with m) ⟫ ended) ≡ (with_parameters p x ⟫ ended_tables)
    tables m p (Ok x) = refl
    tables m p (Err e) = refl

    params : (m : ℕ) (x : Result (Parameters × Rest) FrameFault)
        → (((of_field x ⟫ paired_behind) ⟫ pair_with m) ⟫ ended) ≡ ((of_field x ⟫ tables_behind) ⟫ ended_tables)
    params m (Ok x) = tables m x.0 (tables_part.read x.1)
    params m (Err e) = refl

    head : (x : Result (ℕ × Rest) FrameFault)
        → ((of_field x ⟫ λ m. (of_field (parameters_field.read m.1) ⟫ paired_behind) ⟫ pair_with m.0) ⟫ ended)
        ≡ ((of_field (x >>= λ m. parameters_field.read m.1) ⟫ tables_behind) ⟫ ended_tables)
    head (Ok m) = params m.0 (parameters_field.read m.1)
    head (Err e) = refl
