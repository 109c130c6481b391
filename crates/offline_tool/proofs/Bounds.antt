-- How many names and numbers one call adds to what is told.
use Rattle.std.proofs.Common.{◌≡◌, ◌≤◌, ◌+◌, ℕ, zero, suc, List, Bool, true, false, cond, Option, None, Some, refl, sym, ap, ◌∙◌, subst, arith}
use Rattle.std.specs.Prelude.{is_some, option_map, unwrap_or}
use Rattle.op_frames.specs.declared.operation.Op.{Op}
use Rattle.plain_tree.specs.Classes.{name_used, names_drawn}
use Rattle.plain_tree.specs.Tree.{Tree}
use Rattle.s3_rows.specs.declared.change.Change.{Change}
use Rattle.s3_rows.specs.declared.change.Change.TheVariants as changes
use Rattle.s3_rows.specs.Batches.{after_change, tables_after}
use Rattle.s3_rows.specs.Rows.{Inode, Parameters}
use Rattle.s3_rows.specs.Tables.{Tables}
use Rattle.s3_rows.specs.Told.{IfTold, Told, with_batch}
use Rattle.block_steps.specs.Owed.{KeepsNames, next_block_of, without_next_block}
use Rattle.core_model.specs.Safe.{IsPrepared, with_new_object, with_new_objects}
use Rattle.file_ops.specs.FileChanges.{AreFew, next_object_of}
use Rattle.file_ops.specs.Placed.{ArePrepared}
use Rattle.s3_devices.specs.Told.{Becomes}
use Rattle.ref_counts.specs.Plans.{next_name_of, settings}
use Rattle.volume_core.specs.Standing.{IsFileTold, IsToldAfter, IsToldAlike, LeavesCopied}

-- an operation draws and uses at most one name
pub at_most_one : (whole : Tree) (op : Op) → names_drawn whole op ≤ 1
at_most_one whole op = by_test (is_some (name_used whole op))
  where
    by_test : (b : Bool) → cond b 1 0 ≤ 1
    by_test true = omega arith
    by_test false = omega arith

-- at most one name more is drawn, and few numbers of blocks and objects
pub record AreMore (t u : Tables) : Type 0 where
  pub names : next_name_of u ≤ next_name_of t + 1
  pub blocks : next_block_of u ≤ next_block_of t + 34
  pub objects : next_object_of u ≤ next_object_of t + 34

-- ---- tables with the same names

-- as many names were drawn
abbrev HaveSameNames : Tables → Tables → Type 0
HaveSameNames t u = next_name_of u ≡ next_name_of t

-- objects that are drawn draw no name
same_drawn_one : (t : Tables) (p : Option Parameters) → t.params ≡ p → HaveSameNames t (with_new_object p t)
same_drawn_one t None is = refl
same_drawn_one t (Some p) is = sym (ap (λ (q : Option Parameters). unwrap_or (option_map (λ x. x.next_name) q) 0) is)

same_drawn : (count : ℕ) (t : Tables) → HaveSameNames t (with_new_objects count t)
same_drawn zero t = refl
same_drawn (suc count) t = same_drawn count (with_new_object t.params t) ∙ same_drawn_one t t.params refl

same_prepared : (t u : Tables) → IsPrepared t u → HaveSameNames t u
same_prepared t u is = subst (HaveSameNames t) (sym is.1) (same_drawn is.0 t)

-- nor does a change of places, blocks and the row of one inode
same_kept : (t u : Tables) (new : Inode) → KeepsNames (after_change (changes.PutInode new) t) u → HaveSameNames t u
same_kept t u new kept =
    sym (next_by u.params) ∙ ap (λ (p : Option Parameters). unwrap_or (option_map (λ x. x.next_name) p) 0) kept.params ∙ next_by t.params
  where
    next_by : (p : Option Parameters) → unwrap_or (option_map (λ x. x.next_name) (option_map without_next_block p)) 0 ≡ unwrap_or (option_map (λ x. x.next_name) p) 0
    next_by None = refl
    next_by (Some p) = refl

more_of_same : (t u : Tables) → HaveSameNames t u → AreFew 34 t u → AreMore t u
more_of_same t u same few = record { names = omega (arith, same); blocks = few.blocks; objects = few.objects }

-- a copy of a tree draws no block and no object
settings_numbers : (a b : Option Parameters) → option_map settings b ≡ option_map settings a
    → (unwrap_or (option_map (λ (p : Parameters). p.next_block) b) 0 ≡ unwrap_or (option_map (λ (p : Parameters). p.next_block) a) 0)
    × (unwrap_or (option_map (λ (p : Parameters). p.next_object) b) 0 ≡ unwrap_or (option_map (λ (p : Parameters). p.next_object) a) 0)
settings_numbers None None same = (refl, refl)
settings_numbers None (Some q) same = absurd (cc same)
settings_numbers (Some p) None same = absurd (cc same)
settings_numbers (Some p) (Some q) same =
    let equal : settings q ≡ settings p = cc same in
    (ap (λ (x : Parameters). x.next_block) equal, ap (λ (x : Parameters). x.next_object) equal)

more_of_copy : (t u : Tables) → LeavesCopied t u → AreMore t u
more_of_copy t u leaves =
    let numbers = settings_numbers t.params u.params leaves.params in
    record { names = leaves.names; blocks = omega (arith, numbers.0); objects = omega (arith, numbers.1) }

-- ---- what is told after a call

module _ (before after : Told) where
  abbrev old : Tables
  old = before.tables

  abbrev new : Tables
  new = after.tables

  same_told : Some after ≡ Some before → AreMore old new
  same_told is =
      let own : after ≡ before = cc is in
      subst (λ (x : Told). AreMore old x.tables) (sym own)
      (record { names = omega arith; blocks = omega arith; objects = omega arith })

  file_told : IsFileTold (Some before) (Some after) → AreMore old new
  file_told told = by_middle told.0 told.2 told.3 told.4
    where
      by_middle : (middle : Option Told) → Becomes ArePrepared (Some before) middle → Some after ≡ option_map (with_batch told.1) middle
          → IfTold middle (λ t. (row : Inode) × KeepsNames (after_change (changes.PutInode row) t) (tables_after told.1 t))
          → AreMore old new
      by_middle None prepared is kept = absurd prepared
      by_middle (Some m) prepared is kept =
          let own : after ≡ with_batch told.1 m = cc is in
          let tables : new ≡ tables_after told.1 m.tables = ap (λ (x : Told). x.tables) own in
          more_of_same old new
          (subst (HaveSameNames m.tables) (sym tables) (same_kept m.tables (tables_after told.1 m.tables) kept.0 kept.1) ∙ same_prepared old m.tables prepared.0)
          told.5

  -- the tables of one batch more
  after_batch : (batch : List Change) → Some after ≡ option_map (with_batch batch) (Some before) → new ≡ tables_after batch old
  after_batch batch is =
      let own : after ≡ with_batch batch before = cc is in
      ap (λ (x : Told). x.tables) own

  pub more_after : (b writes copies : Bool) (drawn : ℕ) → drawn ≤ 1 → IsToldAfter b writes copies drawn (Some before) (Some after) → AreMore old new
  more_after false writes copies drawn one told = same_told told
  more_after true true copies drawn one told = file_told told
  more_after true false true drawn one told = subst (AreMore old) (sym (after_batch told.0 told.1)) (more_of_copy old (tables_after told.0 old) told.2)
  more_after true false false drawn one told =
      let small = told.2.1 in
      record {
        names = subst (λ (x : Tables). next_name_of x ≤ next_name_of old + 1) (sym (after_batch told.0 told.1)) (omega (arith, small.names, one));
        blocks = told.3.blocks;
        objects = told.3.objects;
      }

  pub more_alike : (writes : Bool) → IsToldAlike writes (Some before) (Some after) → AreMore old new
  more_alike false told = same_told told
  more_alike true told = more_of_same old new (same_prepared old new told.0.0) told.1
