-- What puts of locked rows make of tables, and of the tree that they represent.
use Rattle.std.proofs.Common.{◌≡◌, ℕ, List, [], ◌∷◌, Bool, true, false, cond, Option, None, Some, refl, sym, ap, ◌∙◌, subst, arith, eq-eqb, ne_eqb}
use Rattle.std.specs.Prelude.{IsTrue, ◌==◌, ◌||◌, map, option_map}
use Rattle.std.specs.List.{AllByRecursion}
use Rattle.std.specs.Cmp.{nat_cmp_total}
use Rattle.std.specs.FinMap.{nat_cmp-IsAntisymmetric}
use Rattle.std.specs.Ordering.{nat_cmp, is_eq, is_lt}
use Rattle.std.proofs.lemmas.Bool.{both_ways}
use Rattle.op_frames.specs.declared.operation.Op.TheVariants as ops
use Rattle.plain_tree.specs.Below.{is_at_or_below}
use Rattle.plain_tree.specs.Checks.{first_failure}
use Rattle.plain_tree.specs.Operations.{checks}
use Rattle.plain_tree.specs.Subtrees.{with_lock}
use Rattle.plain_tree.specs.Tree.{Node, Tree}
use Rattle.plain_tree.specs.WellFormed.{IsWellFormed}
use Rattle.s3_rows.specs.Batches.{tables_after}
use Rattle.s3_rows.specs.Keyed.{has_key, put, rises, row_at}
use Rattle.s3_rows.specs.Rows.{Inode, Parameters}
use Rattle.s3_rows.specs.Selections.{inode_at}
use Rattle.s3_rows.specs.Tables.{Tables, by_inode}
use Rattle.s3_rows.specs.Validity.{IsValid}
use Rattle.row_lemmas.proofs.Keyed.Put.{rises-put, row_at-put}
use Rattle.row_lemmas.proofs.Keyed.Rises.{rises-map}
use Rattle.row_lemmas.proofs.Keyed.RowAt.{row_at_key, same_from_row_at}
use Rattle.row_lemmas.proofs.Tests.{equal_from_is_eq, is_eq-nat_cmp}
use Rattle.tree_rows.specs.Shapes.{NodeShape, TreeShape, Represents, node_of_row, shape_of_node, shape_of_tables, shape_of_tree}
use Rattle.tree_laws.proofs.WellFormed.{IsWellFormed-effect}
use Rattle.ref_counts.specs.Plans.{IsStep}
use Rattle.row_steps.specs.Owed.{Owes}
use Rattle.row_steps.proofs.Less.{IsStep-less}
use Rattle.row_steps.proofs.Owed.Ends.{Owes-IsValid}
use Rattle.row_steps.proofs.Owed.Inodes.{Owes-put_inode_same}
use Rattle.immutable_trees.specs.LockedRows.{AreRowsBelow, is_listed, locked_row, locking}

-- ---- rows of which some are locked

abbrev lock_where : Bool → Inode → Inode
lock_where b r = cond b (locked_row r) r

-- those of inodes that pass a test
abbrev with_locked : (ℕ → Bool) → List Inode → List Inode
with_locked q rows = map (λ r. lock_where (q r.id) r) rows

id-lock_where : (b : Bool) (r : Inode) → (lock_where b r).id ≡ r.id
id-lock_where true r = refl
id-lock_where false r = refl

or_none : (b : Bool) → (b || false) ≡ b
or_none true = refl
or_none false = refl

or_any : (b : Bool) → (b || true) ≡ true
or_any true = refl
or_any false = refl

or_comes : (a b c : Bool) → ((a || b) || c) ≡ (a || (b || c))
or_comes true b c = refl
or_comes false b c = refl

rises-with_locked : (q : ℕ → Bool) (rows : List Inode) → IsTrue (rises by_inode rows) → IsTrue (rises by_inode (with_locked q rows))
rises-with_locked q rows up =
    rises-map by_inode by_inode (λ (r : Inode). lock_where (q r.id) r)
    (λ x y. λ i. is_lt (nat_cmp (id-lock_where (q x.id) x i) (id-lock_where (q y.id) y i))) rows up

row_at-with_locked : (q : ℕ → Bool) (k : ℕ) (rows : List Inode)
    → row_at by_inode k (with_locked q rows) ≡ option_map (λ (r : Inode). lock_where (q r.id) r) (row_at by_inode k rows)
row_at-with_locked q k [] = refl
row_at-with_locked q k (x ∷ xs) =
    (λ i. cond (is_eq (nat_cmp k (id-lock_where (q x.id) x i))) (Some (lock_where (q x.id) x)) (row_at-with_locked q k xs i))
    ∙ by_case (is_eq (nat_cmp k x.id))
  where
    made : Inode → Inode
    made r = lock_where (q r.id) r

    by_case : (b : Bool) → cond b (Some (made x)) (option_map made (row_at by_inode k xs)) ≡ option_map made (cond b (Some x) (row_at by_inode k xs))
    by_case true = refl
    by_case false = refl

with_locked-none : (rows : List Inode) → with_locked (λ x. false) rows ≡ rows
with_locked-none [] = refl
with_locked-none (r ∷ rs) = ap (λ xs. r ∷ xs) (with_locked-none rs)

-- a put of one more
put-with_locked : (q : ℕ → Bool) (r : Inode) (rows : List Inode) → IsTrue (rises by_inode rows) → row_at by_inode r.id rows ≡ Some r
    → put by_inode (locked_row r) (with_locked q rows) ≡ with_locked (λ x. q x || (r.id == x)) rows
put-with_locked q r rows up there =
    same_from_row_at by_inode nat_cmp_total (put by_inode (locked_row r) (with_locked q rows)) (with_locked (λ x. q x || (r.id == x)) rows)
    (rises-put by_inode nat_cmp_total (locked_row r) (with_locked q rows) (rises-with_locked q rows up))
    (rises-with_locked (λ x. q x || (r.id == x)) rows up)
    (λ k. row_at-put by_inode nat_cmp_total k (locked_row r) (with_locked q rows)
    ∙ ap (λ (found : Option Inode). cond (has_key by_inode k r) (Some (locked_row r)) found) (row_at-with_locked q k rows)
    ∙ by_key k (has_key by_inode k r) refl
    ∙ sym (row_at-with_locked (λ x. q x || (r.id == x)) k rows))
  where
    before : Inode → Inode
    before x = lock_where (q x.id) x

    after : Inode → Inode
    after x = lock_where (q x.id || (r.id == x.id)) x

    itself : after r ≡ locked_row r
    itself = ap (λ b. lock_where b r) (ap (λ b. q r.id || b) (eq-eqb r.id r.id refl) ∙ or_any (q r.id))

    by_row : (k : ℕ) → has_key by_inode k r ≡ false → (found : Option Inode) → row_at by_inode k rows ≡ found → option_map before found ≡ option_map after found
    by_row k other None is = refl
    by_row k other (Some x) is =
        let number : k ≡ x.id = nat_cmp-IsAntisymmetric k x.id (row_at_key by_inode k rows x is) in
        let apart : (r.id == x.id) ≡ false =
        ne_eqb r.id x.id (λ same. both_ways (k == r.id) (sym (is_eq-nat_cmp k r.id) ∙ other) (eq-eqb k r.id (number ∙ sym same))) in
        ap (λ b. Some (lock_where b x)) (sym (ap (λ b. q x.id || b) apart ∙ or_none (q x.id)))

    by_key : (k : ℕ) (b : Bool) → has_key by_inode k r ≡ b → cond b (Some (locked_row r)) (option_map before (row_at by_inode k rows)) ≡ option_map after (row_at by_inode k rows)
    by_key k true is =
        let number : k ≡ r.id = nat_cmp-IsAntisymmetric k r.id (equal_from_is_eq (nat_cmp k r.id) is) in
        ap Some (sym itself) ∙ sym (ap (option_map after) (ap (λ x. row_at by_inode x rows) number ∙ there))
    by_key k false is = by_row k is (row_at by_inode k rows) refl

-- ---- tables

abbrev locked_in : (ℕ → Bool) → Tables → Tables
locked_in q t = record t { inodes = with_locked q t.inodes }

module _ (t : Tables) (up : IsTrue (rises by_inode t.inodes)) where
  tables_after-locking : (rows : List Inode) (q : ℕ → Bool) → AllByRecursion (λ (r : Inode). inode_at t r.id ≡ Some r) rows
      → tables_after (locking rows) (locked_in q t) ≡ locked_in (λ x. q x || is_listed rows x) t
  tables_after-locking [] q there = ap (λ (p : ℕ → Bool). locked_in p t) (λ i x. sym (or_none (q x)) i)
  tables_after-locking (r ∷ rs) q there =
      ap (λ (rows : List Inode). tables_after (locking rs) (record t { inodes = rows })) (put-with_locked q r t.inodes up there.0)
      ∙ tables_after-locking rs (λ x. q x || (r.id == x)) there.1
      ∙ ap (λ (p : ℕ → Bool). locked_in p t) (λ i x. or_comes (q x) (r.id == x) (is_listed rs x) i)

  Owes-locking : (p : Parameters) (rows : List Inode) (q : ℕ → Bool) → AllByRecursion (λ (r : Inode). inode_at t r.id ≡ Some r) rows
      → Owes (locked_in q t) p [] [] → Owes (tables_after (locking rows) (locked_in q t)) p [] []
  Owes-locking p [] q there o = o
  Owes-locking p (r ∷ rs) q there o =
      let old : Inode = lock_where (q r.id) r in
      let found : inode_at (locked_in q t) r.id ≡ Some old =
      row_at-with_locked q r.id t.inodes ∙ ap (option_map (λ (x : Inode). lock_where (q x.id) x)) there.0 in
      let same : (b : Bool) → (r.kind ≡ (lock_where b r).kind) × (r.size ≡ (lock_where b r).size) × (r.refcount ≡ (lock_where b r).refcount) = alike in
      let one : Owes (record t { inodes = put by_inode (locked_row r) (with_locked q t.inodes) }) p [] [] =
      Owes-put_inode_same (locked_in q t) p old (locked_row r) [] [] o found (same (q r.id)).0 (same (q r.id)).1 (same (q r.id)).2 in
      let next : put by_inode (locked_row r) (with_locked q t.inodes) ≡ with_locked (λ x. q x || (r.id == x)) t.inodes = put-with_locked q r t.inodes up there.0 in
      subst (λ (rows : List Inode). Owes (tables_after (locking rs) (record t { inodes = rows })) p [] []) (sym next)
      (Owes-locking p rs (λ x. q x || (r.id == x)) there.1 (subst (λ (rows : List Inode). Owes (record t { inodes = rows }) p [] []) next one))
    where
      alike : (b : Bool) → (r.kind ≡ (lock_where b r).kind) × (r.size ≡ (lock_where b r).size) × (r.refcount ≡ (lock_where b r).refcount)
      alike true = (refl, refl, refl)
      alike false = (refl, refl, refl)

-- ---- the tree

-- a node that is locked where a test passes, in shape
abbrev lock_shape : (ℕ → Bool) → ℕ × NodeShape → ℕ × NodeShape
lock_shape q e = (e.0, cond (q e.0) (record e.1 { locked = true }) e.1)

abbrev row_shape : Tables → Inode → ℕ × NodeShape
row_shape t r = (r.id, node_of_row t r)

abbrev shaped : ℕ × Node → ℕ × NodeShape
shaped e = (e.0, shape_of_node e.1)

shape-with_locked : (t : Tables) (q : ℕ → Bool) (rows : List Inode) → map (row_shape t) (with_locked q rows) ≡ map (lock_shape q) (map (row_shape t) rows)
shape-with_locked t q [] = refl
shape-with_locked t q (r ∷ rs) = λ i. one (q r.id) i ∷ shape-with_locked t q rs i
  where
    one : (b : Bool) → row_shape t (lock_where b r) ≡ (r.id, cond b (record (node_of_row t r) { locked = true }) (node_of_row t r))
    one true = refl
    one false = refl

shape-locked : (q : ℕ → Bool) (nodes : List (ℕ × Node))
    → map shaped (map (λ (e : ℕ × Node). cond (q e.0) (e.0, record e.1 { locked = true }) e) nodes) ≡ map (lock_shape q) (map shaped nodes)
shape-locked q [] = refl
shape-locked q (e ∷ es) = λ i. one (q e.0) i ∷ shape-locked q es i
  where
    one : (b : Bool) → shaped (cond b (e.0, record e.1 { locked = true }) e) ≡ (e.0, cond b (record (shape_of_node e.1) { locked = true }) (shape_of_node e.1))
    one true = refl
    one false = refl

Represents-with_lock : (t : Tables) (whole : Tree) (top : ℕ) → Represents t whole → Represents (locked_in (is_at_or_below whole top) t) (with_lock top whole)
Represents-with_lock t whole top same =
    let q : ℕ → Bool = is_at_or_below whole top in
    ap (λ (es : List (ℕ × NodeShape)). record (shape_of_tables t) { nodes = es }) (shape-with_locked t q t.inodes)
    ∙ ap (λ (s : TreeShape). record s { nodes = map (lock_shape q) s.nodes }) same
    ∙ ap (λ (es : List (ℕ × NodeShape)). record (shape_of_tree whole) { nodes = es }) (sym (shape-locked q whole.nodes))

-- ---- the step

pub IsStep-locking : (t : Tables) (whole : Tree) (pass inode : ℕ) (rows : List Inode) → IsValid t → Represents t whole → IsWellFormed whole
    → first_failure (checks whole pass (ops.LockTree inode)) ≡ None → AreRowsBelow t whole inode rows
    → IsStep t (tables_after (locking rows) t) (with_lock inode whole) 0
IsStep-locking t whole pass inode rows v same well passes are =
    let up : IsTrue (rises by_inode t.inodes) = v.ordered.inodes in
    let first : t ≡ locked_in (λ x. false) t = ap (λ (xs : List Inode). record t { inodes = xs }) (sym (with_locked-none t.inodes)) in
    let after : Tables = tables_after (locking rows) t in
    let next : Tables = locked_in (is_at_or_below whole inode) t in
    let is : after ≡ next =
    ap (tables_after (locking rows)) first ∙ tables_after-locking t up rows (λ x. false) are.there
    ∙ ap (λ (p : ℕ → Bool). locked_in p t) (λ i x. are.below x i) in
    let o : Owes after v.params [] [] =
    subst (λ (u : Tables). Owes (tables_after (locking rows) u) v.params [] []) (sym first)
    (Owes-locking t up v.params rows (λ x. false) are.there (subst (λ (u : Tables). Owes u v.params [] []) first (Owes-IsValid t v.params v v.is_made))) in
    subst (λ (u : Tables). IsStep t u (with_lock inode whole) 0) (sym is)
    (IsStep-less t next (with_lock inode whole) v.params (subst (λ (u : Tables). Owes u v.params [] []) is o) (Represents-with_lock t whole inode same)
    (IsWellFormed-effect whole pass 0 (ops.LockTree inode) well passes) (λ unique. unique)
    (record { params = refl; inode_blocks = refl; blocks = refl; objects = refl; slots = refl; contents = omega arith; attrs = omega arith }))
