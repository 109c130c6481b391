-- What the checks of an operation say where all of them pass.
use Rattle.std.proofs.Common.{◌≡◌, ◌≤◌, ◌<◌, ℕ, ◌+◌, ◌^◌, List, [], ◌∷◌, ◌++◌, Bool, true, false, Option, None, Some, refl, arith, length, cond, subst}
use Rattle.std.proofs.lemmas.Bool.{ltb-false, leb-false}
use Rattle.std.specs.Prelude.{◌==◌, nat_lt, not, ◌&&◌, unwrap_or, is_some}
use Rattle.op_frames.specs.declared.operation.Op.TheVariants as ops
use Rattle.plain_tree.specs.Below.{at_and_below, is_at_or_below}
use Rattle.plain_tree.specs.Checks.{first_failure, fails_with, name_check, target_check, mode_check, time_check, size_check, write_end_check, node_check, directory_check, no_directory_check, lock_check, free_check, keep_check, entry_check, empty_check, ids_check, hand_check}
use Rattle.plain_tree.specs.Entries.{is_folder, entry_at, child_at}
use Rattle.plain_tree.specs.Operations.{checks, make_checks, drop_checks, move_checks}
use Rattle.plain_tree.specs.Subtrees.{is_same}
use Rattle.plain_tree.specs.Tree.{Tree, node_at}

-- no check fails
abbrev pub AllPass : List (Option ℕ) → Type 0
AllPass [] = Unit {0}
AllPass (check ∷ others) = (check ≡ None) × AllPass others

pub all_pass : (checks : List (Option ℕ)) → first_failure checks ≡ None → AllPass checks
all_pass [] is = _
all_pass (None ∷ others) is = (refl, all_pass others is)
all_pass (Some errno ∷ others) is = absurd (cc is)

pub not_failed : (errno : ℕ) (test : Bool) → fails_with errno test ≡ None → test ≡ false
not_failed errno true is = absurd (cc is)
not_failed errno false is = refl

-- ---- numbers

pub mode_fits : (mode : ℕ) → mode_check mode ≡ None → mode ≤ 4095
mode_fits mode is = ltb-false 4095 mode (not_failed 22 (nat_lt 4095 mode) is)

pub time_fits : (time : ℕ) → time_check time ≡ None → time < 2 ^ 62
time_fits time is = leb-false (2 ^ 62) time (not_failed 22 _ is)

pub size_fits : (size : ℕ) → size_check size ≡ None → size ≤ 2 ^ 50
size_fits size is = ltb-false (2 ^ 50) size (not_failed 27 _ is)

pub end_fits : (offset : ℕ) (bytes : List ℕ) → (length bytes == 0) ≡ false → write_end_check offset bytes ≡ None → offset + length bytes ≤ 2 ^ 50
end_fits offset bytes some passes =
    ltb-false (2 ^ 50) (offset + length bytes)
    (not_failed 27 _ (subst (λ b. cond b None (fails_with 27 (nat_lt (2 ^ 50) (offset + length bytes))) ≡ None) some passes))

pub ids_fit : (t : Tree) (count : ℕ) → ids_check t count ≡ None → t.next_inode + count ≤ 2 ^ 62
ids_fit t count is = ltb-false (2 ^ 62) (t.next_inode + count) (not_failed 28 _ is)

pub hand_fits : (t : Tree) → hand_check t ≡ None → t.next_handle + 1 ≤ 2 ^ 62
hand_fits t is = omega (arith, leb-false (2 ^ 62) t.next_handle (not_failed 28 _ is))

-- ---- operations

-- of a new node in a directory
pub record CanMake (t : Tree) (p : ℕ) (n : List ℕ) : Type 0 where
  pub legal : name_check n ≡ None
  pub there : node_check (node_at t p) ≡ None
  pub folder : directory_check (node_at t p) ≡ None
  pub unlocked : lock_check (node_at t p) ≡ None
  pub free : free_check (node_at t p) n ≡ None
  pub ids : t.next_inode + 1 ≤ 2 ^ 62

-- of an entry that goes
pub record CanDrop (t : Tree) (p : ℕ) (n : List ℕ) : Type 0 where
  pub legal : name_check n ≡ None
  pub there : node_check (node_at t p) ≡ None
  pub folder : directory_check (node_at t p) ≡ None
  pub unlocked : lock_check (node_at t p) ≡ None
  pub kept : keep_check p n ≡ None
  pub entry : entry_check (entry_at t p n) ≡ None

-- of an entry of what is no directory
pub record CanUnlink (t : Tree) (p : ℕ) (n : List ℕ) : Type 0 where
  pub drop : CanDrop t p n
  pub file : no_directory_check 21 (child_at t p n) ≡ None
  pub child_unlocked : lock_check (child_at t p n) ≡ None

-- of an entry of an empty directory
pub record CanUnmake (t : Tree) (p : ℕ) (n : List ℕ) : Type 0 where
  pub drop : CanDrop t p n
  pub child_folder : directory_check (child_at t p n) ≡ None
  pub child_unlocked : lock_check (child_at t p n) ≡ None
  pub empty : empty_check (child_at t p n) ≡ None

-- of an entry of a directory with all below it
pub record CanUproot (t : Tree) (p : ℕ) (n : List ℕ) : Type 0 where
  pub drop : CanDrop t p n
  pub child_folder : directory_check (child_at t p n) ≡ None

-- of a name more
pub record CanLink (t : Tree) (x p : ℕ) (n : List ℕ) : Type 0 where
  pub legal : name_check n ≡ None
  pub there : node_check (node_at t x) ≡ None
  pub parent_there : node_check (node_at t p) ≡ None
  pub parent_folder : directory_check (node_at t p) ≡ None
  pub file : no_directory_check 1 (node_at t x) ≡ None
  pub unlocked : lock_check (node_at t x) ≡ None
  pub parent_unlocked : lock_check (node_at t p) ≡ None
  pub free : free_check (node_at t p) n ≡ None

-- of a rename
pub record CanRename (t : Tree) (p : ℕ) (n : List ℕ) (np : ℕ) (nn : List ℕ) : Type 0 where
  pub legal : name_check n ≡ None
  pub new_legal : name_check nn ≡ None
  pub there : node_check (node_at t p) ≡ None
  pub folder : directory_check (node_at t p) ≡ None
  pub new_there : node_check (node_at t np) ≡ None
  pub new_folder : directory_check (node_at t np) ≡ None
  pub unlocked : lock_check (node_at t p) ≡ None
  pub new_unlocked : lock_check (node_at t np) ≡ None
  pub kept : keep_check p n ≡ None
  pub new_kept : keep_check np nn ≡ None
  pub entry : entry_check (entry_at t p n) ≡ None
  pub child_unlocked : lock_check (child_at t p n) ≡ None

-- of a rename whose names name two nodes
pub record CanMove (t : Tree) (p : ℕ) (n : List ℕ) (np : ℕ) (nn : List ℕ) : Type 0 where
  pub rename : CanRename t p n np nn
  pub differs : is_same (entry_at t np nn) (entry_at t p n) ≡ false
  pub outside : (is_at_or_below t (unwrap_or (entry_at t p n) 0) np && is_folder (child_at t p n)) ≡ false
  pub new_child_unlocked : lock_check (child_at t np nn) ≡ None
  pub over_file : (is_some (child_at t np nn) && is_folder (child_at t np nn) && not (is_folder (child_at t p n))) ≡ false
  pub over_folder : (is_some (child_at t np nn) && not (is_folder (child_at t np nn)) && is_folder (child_at t p n)) ≡ false
  pub empty : empty_check (child_at t np nn) ≡ None

-- of a copy of a subtree
pub record CanCopy (t : Tree) (source p : ℕ) (n : List ℕ) : Type 0 where
  pub legal : name_check n ≡ None
  pub source_there : node_check (node_at t source) ≡ None
  pub source_folder : directory_check (node_at t source) ≡ None
  pub there : node_check (node_at t p) ≡ None
  pub folder : directory_check (node_at t p) ≡ None
  pub outside : is_at_or_below t source p ≡ false
  pub unlocked : lock_check (node_at t p) ≡ None
  pub free : free_check (node_at t p) n ≡ None
  pub ids : t.next_inode + length (at_and_below t source) ≤ 2 ^ 62

can_make : (t : Tree) (p : ℕ) (n : List ℕ) (mode : ℕ) (rest : List (Option ℕ)) → AllPass (make_checks t p n mode ++ rest) → (mode ≤ 4095) × CanMake t p n × AllPass rest
can_make t p n mode rest all = (
  mode_fits mode all.1.0,
  record { legal = all.0; there = all.1.1.0; folder = all.1.1.1.0; unlocked = all.1.1.1.1.0; free = all.1.1.1.1.1.0; ids = ids_fit t 1 all.1.1.1.1.1.1.0 },
  all.1.1.1.1.1.1.1,
)

can_drop : (t : Tree) (p : ℕ) (n : List ℕ) (rest : List (Option ℕ)) → AllPass (drop_checks t p n ++ rest) → CanDrop t p n × AllPass rest
can_drop t p n rest all =
    (record { legal = all.0; there = all.1.0; folder = all.1.1.0; unlocked = all.1.1.1.0; kept = all.1.1.1.1.0; entry = all.1.1.1.1.1.0 }, all.1.1.1.1.1.1)

pub can_mkdir : (t : Tree) (pass p : ℕ) (n : List ℕ) (mode uid gid : ℕ) → first_failure (checks t pass (ops.Mkdir p n mode uid gid)) ≡ None → (mode ≤ 4095) × CanMake t p n
can_mkdir t pass p n mode uid gid passes =
    let can = can_make t p n mode [] (all_pass (checks t pass (ops.Mkdir p n mode uid gid)) passes) in
    (can.0, can.1)

pub can_create : (t : Tree) (pass p : ℕ) (n : List ℕ) (mode uid gid : ℕ) → first_failure (checks t pass (ops.Create p n mode uid gid)) ≡ None
    → (mode ≤ 4095) × CanMake t p n × (t.next_handle + 1 ≤ 2 ^ 62)
can_create t pass p n mode uid gid passes =
    let can = can_make t p n mode (hand_check t ∷ []) (all_pass (checks t pass (ops.Create p n mode uid gid)) passes) in
    (can.0, can.1, hand_fits t can.2.0)

pub can_symlink : (t : Tree) (pass p : ℕ) (n target : List ℕ) (uid gid : ℕ) → first_failure (checks t pass (ops.Symlink p n target uid gid)) ≡ None → (target_check target ≡ None) × CanMake t p n
can_symlink t pass p n target uid gid passes =
    let all = all_pass (checks t pass (ops.Symlink p n target uid gid)) passes in (
      all.1.0,
      record { legal = all.0; there = all.1.1.0; folder = all.1.1.1.0; unlocked = all.1.1.1.1.0; free = all.1.1.1.1.1.0; ids = ids_fit t 1 all.1.1.1.1.1.1.0 },
    )

pub can_unlink : (t : Tree) (pass p : ℕ) (n : List ℕ) → first_failure (checks t pass (ops.Unlink p n)) ≡ None → CanUnlink t p n
can_unlink t pass p n passes =
    let can = can_drop t p n (no_directory_check 21 (child_at t p n) ∷ lock_check (child_at t p n) ∷ []) (all_pass (checks t pass (ops.Unlink p n)) passes) in
    record { drop = can.0; file = can.1.0; child_unlocked = can.1.1.0 }

pub can_unmake : (t : Tree) (pass p : ℕ) (n : List ℕ) → first_failure (checks t pass (ops.Rmdir p n)) ≡ None → CanUnmake t p n
can_unmake t pass p n passes =
    let can = can_drop t p n (directory_check (child_at t p n) ∷ lock_check (child_at t p n) ∷ empty_check (child_at t p n) ∷ []) (all_pass (checks t pass (ops.Rmdir p n)) passes) in
    record { drop = can.0; child_folder = can.1.0; child_unlocked = can.1.1.0; empty = can.1.1.1.0 }

pub can_uproot : (t : Tree) (pass p : ℕ) (n : List ℕ) → first_failure (checks t pass (ops.RemoveTree p n)) ≡ None → CanUproot t p n
can_uproot t pass p n passes =
    let can = can_drop t p n (directory_check (child_at t p n) ∷ []) (all_pass (checks t pass (ops.RemoveTree p n)) passes) in
    record { drop = can.0; child_folder = can.1.0 }

pub can_link : (t : Tree) (pass x p : ℕ) (n : List ℕ) → first_failure (checks t pass (ops.Link x p n)) ≡ None → CanLink t x p n
can_link t pass x p n passes =
    let all = all_pass (checks t pass (ops.Link x p n)) passes in
    record {
      legal = all.0;
      there = all.1.0;
      parent_there = all.1.1.0;
      parent_folder = all.1.1.1.0;
      file = all.1.1.1.1.0;
      unlocked = all.1.1.1.1.1.0;
      parent_unlocked = all.1.1.1.1.1.1.0;
      free = all.1.1.1.1.1.1.1.1.0;
    }

pub can_rename : (t : Tree) (pass p : ℕ) (n : List ℕ) (np : ℕ) (nn : List ℕ) → first_failure (checks t pass (ops.Rename p n np nn)) ≡ None → CanRename t p n np nn
can_rename t pass p n np nn passes =
    let all = all_pass (checks t pass (ops.Rename p n np nn)) passes in
    let more = all.1.1.1.1.1.1 in
    record {
      legal = all.0;
      new_legal = all.1.0;
      there = all.1.1.0;
      folder = all.1.1.1.0;
      new_there = all.1.1.1.1.0;
      new_folder = all.1.1.1.1.1.0;
      unlocked = more.0;
      new_unlocked = more.1.0;
      kept = more.1.1.0;
      new_kept = more.1.1.1.0;
      entry = more.1.1.1.1.0;
      child_unlocked = more.1.1.1.1.1.0;
    }

pub can_move : (t : Tree) (pass p : ℕ) (n : List ℕ) (np : ℕ) (nn : List ℕ) → first_failure (checks t pass (ops.Rename p n np nn)) ≡ None
    → is_same (entry_at t np nn) (entry_at t p n) ≡ false → CanMove t p n np nn
can_move t pass p n np nn passes differs =
    let all = all_pass (checks t pass (ops.Rename p n np nn)) passes in
    let moves : AllPass (move_checks t (entry_at t p n) (child_at t p n) (child_at t np nn) np) =
    subst (λ same. AllPass (cond same [] (move_checks t (entry_at t p n) (child_at t p n) (child_at t np nn) np))) differs all.1.1.1.1.1.1.1.1.1.1.1.1 in
    record {
      rename = can_rename t pass p n np nn passes;
      differs = differs;
      outside = not_failed 22 _ moves.0;
      new_child_unlocked = moves.1.0;
      over_file = not_failed 21 _ moves.1.1.0;
      over_folder = not_failed 20 _ moves.1.1.1.0;
      empty = moves.1.1.1.1.0;
    }

pub can_copy : (t : Tree) (pass source p : ℕ) (n : List ℕ) → first_failure (checks t pass (ops.CopyTree source p n)) ≡ None → CanCopy t source p n
can_copy t pass source p n passes =
    let all = all_pass (checks t pass (ops.CopyTree source p n)) passes in
    record {
      legal = all.0;
      source_there = all.1.0;
      source_folder = all.1.1.0;
      there = all.1.1.1.0;
      folder = all.1.1.1.1.0;
      outside = not_failed 22 _ all.1.1.1.1.1.0;
      unlocked = all.1.1.1.1.1.1.0;
      free = all.1.1.1.1.1.1.1.0;
      ids = ids_fit t (length (at_and_below t source)) all.1.1.1.1.1.1.1.1.0;
    }
