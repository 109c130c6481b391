-- When the plan of an operation is right: the tree's own refusal, or a batch after which tables represent the tree's next.
use Rattle.std.specs.Prelude.{◌≡◌, ◌⊎◌, ℕ, ◌+◌, ◌^◌, ◌≤◌, ◌==◌, List, [], length, Bool, true, false, ◌&&◌, IsTrue, Option, None, Some, option_map, unwrap_or, is_some}
use Rattle.op_frames.specs.declared.operation.Op.{Op}
use Rattle.op_frames.specs.declared.reply.Reply.{Reply}
use Rattle.op_frames.specs.declared.reply.Reply.TheVariants as replies
use Rattle.op_frames.specs.Rules.{has_fit_fields}
use Rattle.plain_tree.specs.Tree.{Tree}
use Rattle.plain_tree.specs.Checks.{first_failure}
use Rattle.plain_tree.specs.Operations.{checks, success, effect}
use Rattle.plain_tree.specs.Classes.{inode_linked, keeps_rows, name_used, names_drawn}
use Rattle.s3_rows.specs.Rows.{Parameters}
use Rattle.s3_rows.specs.Tables.{Tables}
use Rattle.s3_rows.specs.Batches.{tables_after}
use Rattle.s3_rows.specs.Selections.{inode_at}
use Rattle.s3_rows.specs.Validity.{IsValid, HasUniqueNames}
use Rattle.tree_rows.specs.Shapes.{Represents}
use Rattle.tree_rows.specs.Spots.{form_at}
use Rattle.ref_counts.specs.Links.{AreRowsOf}
use Rattle.ref_counts.specs.Names.{raised}
use Rattle.ref_counts.specs.declared.plan.Plan.{Plan}
use Rattle.ref_counts.specs.declared.plan.Plan.TheVariants as plans

-- the numbers that the next new inode and name get
abbrev pub next_inode_of : Tables → ℕ
next_inode_of t = unwrap_or (option_map (λ p. p.next_inode) t.params) 0

abbrev pub next_name_of : Tables → ℕ
next_name_of t = unwrap_or (option_map (λ p. p.next_name) t.params) 0

-- how many entries and attributes have names
abbrev pub uses_of : Tables → ℕ
uses_of t = length t.contents + length t.attrs

-- parameters without the next numbers of inodes and names
abbrev pub settings : Parameters → Parameters
settings p = record p { next_inode = 0; next_name = 0 }

-- What an operation on names and inodes leaves alone: settings, generations, slots, and all next numbers but those of inodes and
-- names, which do not fall, so no number is given twice. Each inode that has a row keeps the forms of its places, and no block
-- comes: what goes are places of inodes that go, and blocks that have no place then.
pub record LeavesRest (t after : Tables) : Type 0 where
  pub params : option_map settings after.params ≡ option_map settings t.params
  pub next_inode : next_inode_of t ≤ next_inode_of after
  pub next_name : next_name_of t ≤ next_name_of after
  pub forms : (inode blockno : ℕ) → IsTrue (is_some (inode_at after inode)) → form_at after inode blockno ≡ form_at t inode blockno
  pub blocks : AreRowsOf t after
  pub slots : after.slots ≡ t.slots

-- at most so many names more are drawn, and so many more used
pub record IsSmall (drawn : ℕ) (t after : Tables) : Type 0 where
  pub names : next_name_of after ≤ next_name_of t + drawn
  pub uses : uses_of after ≤ uses_of t + drawn

-- What the batch of an operation on names and inodes makes of valid tables: they stay valid, and represent the next tree.
pub record IsStep (t after : Tables) (next : Tree) (drawn : ℕ) : Type 0 where
  pub valid : IsValid after
  pub represents : Represents after next
  pub unique : HasUniqueNames t → HasUniqueNames after
  pub rest : LeavesRest t after
  pub small : IsSmall drawn t after

-- a name is needed, and its count or its id would not be below 2^62
abbrev pub IsNameWorn : Tables → Option (List ℕ) → Type 0
IsNameWorn t None = ⊥
IsNameWorn t (Some name) = raised t name ≡ None

-- the count of an inode that is there, and would be one more, would not be below 2^62
abbrev pub IsCountWorn : Tables → ℕ → Type 0
IsCountWorn t inode = elim (inode_at t inode) [ Some r ↦ 2 ^ 62 ≤ r.refcount + 1 | None ↦ ⊥ ]

-- the name that is used once more, or the inode that is linked once more, is worn
abbrev pub IsWornFor : Tables → Option (List ℕ) → Option ℕ → Type 0
IsWornFor t used None = IsNameWorn t used
IsWornFor t used (Some inode) = IsNameWorn t used ⊎ IsCountWorn t inode

-- a count or an id that is needed would not be below 2^62
abbrev pub IsWorn : Tables → Tree → Op → Type 0
IsWorn t whole op = IsWornFor t (name_used whole op) (inode_linked op)

-- A refusal is that of the first check that fails. Where none fails, a count or an id that is needed is worn, or the reply is the tree's,
-- and after the batch the tables represent the tree's next.
abbrev pub IsPlanOf : Tables → Tree → ℕ → Op → ℕ → Plan → Type 0
IsPlanOf t whole pass op now (plans.Refuse errno) = first_failure (checks whole pass op) ≡ Some errno.0
IsPlanOf t whole pass op now plans.Worn = (first_failure (checks whole pass op) ≡ None) × IsWorn t whole op
IsPlanOf t whole pass op now (plans.Commit batch reply drop) =
    (first_failure (checks whole pass op) ≡ None) × (reply ≡ success whole pass op now)
    × IsStep t (tables_after batch t) (effect whole pass op now) (names_drawn whole op) × ((length batch == 0) ≡ keeps_rows whole pass op) × (drop ≡ [])
    × (IsWorn t whole op → ⊥)

-- a reply by the tree's rules, which a fault and a lost block are not
abbrev pub is_by_rules : Reply → Bool
is_by_rules (replies.Fault cause) = false
is_by_rules (replies.Lost object kept got) = false
is_by_rules _ = true

-- such a reply whose fields are within their rules
abbrev pub is_fit : Reply → Bool
is_fit reply = is_by_rules reply && has_fit_fields reply

abbrev pub HasFitReply : Plan → Type 0
HasFitReply (plans.Refuse errno) = Unit {0}
HasFitReply plans.Worn = Unit {0}
HasFitReply (plans.Commit batch reply drop) = IsTrue (is_fit reply)
