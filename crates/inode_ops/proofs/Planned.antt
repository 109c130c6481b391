-- Plans that are right.
use Rattle.std.proofs.Common.{◌≡◌, ◌<◌, ◌^◌, ℕ, List, [], ◌∷◌, true, false, cond, Option, None, Some, Result, Ok, Err, refl, sym, ap, ◌∙◌, subst, arith}
use Rattle.std.specs.Prelude.{IfOk}
use Rattle.std.specs.Cmp.{nat_cmp_total, tied_itself}
use Rattle.std.specs.Ordering.{is_eq}
use Rattle.s3_base.specs.declared.errors.Errno.{Errno}
use Rattle.op_frames.specs.declared.operation.Op.{Op}
use Rattle.op_frames.specs.declared.operation.Op.TheVariants as ops
use Rattle.op_frames.specs.declared.reply.Reply.{Reply}
use Rattle.op_frames.specs.declared.reply.Reply.TheVariants as replies
use Rattle.plain_tree.specs.Tree.{Node, Tree, node_at, change_node, stamped}
use Rattle.plain_tree.specs.Checks.{first_failure, mode_check, time_check, node_check, lock_check}
use Rattle.plain_tree.specs.Classes.{keeps_rows, name_used, names_drawn}
use Rattle.plain_tree.specs.Operations.{checks, effect, success, attr_reply}
use Rattle.s3_rows.specs.declared.change.Change.TheVariants as changes
use Rattle.s3_rows.specs.Rows.{Inode}
use Rattle.s3_rows.specs.Tables.{Tables, by_inode}
use Rattle.s3_rows.specs.Batches.{after_change}
use Rattle.s3_rows.specs.Selections.{inode_at}
use Rattle.s3_rows.specs.Validity.{IsValid, HasUniqueNames}
use Rattle.row_lemmas.proofs.Keyed.Put.{row_at-put}
use Rattle.row_lemmas.proofs.ReplacedInode.{replaced_valid}
use Rattle.tree_rows.specs.Attrs.{attr_of_row}
use Rattle.tree_rows.specs.Shapes.{NodeShape, shape_of_node, node_of_row, Represents}
use Rattle.tree_rows.proofs.Attributed.{attr_is}
use Rattle.tree_rows.proofs.Replaced.{replaced_represents}
use Rattle.tree_rows.proofs.Whole.{number_of}
use Rattle.op_checks.specs.Checks.{Checks}
use Rattle.op_checks.specs.Rows.{row_check, lock_row_check}
use Rattle.op_checks.proofs.Nodes.{node_check-row, lock_check-row}
use Rattle.ref_counts.specs.Plans.{IsPlanOf, IsStep, LeavesRest, IsSmall}
use Rattle.ref_counts.specs.Answers.{answer_plan, IsReplyOf}
use Rattle.ref_counts.proofs.Idle.{IsWorn-nameless, IsPlanOf-idle, if_reply_of}
use Rattle.ref_counts.proofs.Rest.{LeavesRest-LeavesBlocks}
use Rattle.inode_ops.specs.Answers.{put_plan, IsChangedRow}

-- ---- steps

-- the other tables and all numbers are as before
same_rest : (t : Tables) (rows : List Inode) → LeavesRest t (record t { inodes = rows })
same_rest t rows =
    LeavesRest-LeavesBlocks t (record t { inodes = rows })
    (record { params = refl; next_inode = omega arith; next_name = omega arith; inode_blocks = refl; blocks = refl; objects = refl; slots = refl })

same_small : (t : Tables) (rows : List Inode) (drawn : ℕ) → IsSmall drawn t (record t { inodes = rows })
same_small t rows drawn = record { names = omega arith; uses = omega arith }

-- an inode's row is replaced
pub replaced : (t : Tables) (next : Tree) (drawn : ℕ) (new : Inode) → IsValid (after_change (changes.PutInode new) t)
    → Represents (after_change (changes.PutInode new) t) next → IsStep t (after_change (changes.PutInode new) t) next drawn
replaced t next drawn new valid represents = record {
  valid = valid;
  represents = represents;
  unique = λ (u : HasUniqueNames t). u;
  rest = same_rest t (after_change (changes.PutInode new) t).inodes;
  small = same_small t (after_change (changes.PutInode new) t).inodes drawn;
}

-- ---- no row is changed

-- What checks answered is the plan of an operation that changes no row, where the reply is that of its success.
pub idle_planned : (t : Tables) (whole : Tree) (pass : ℕ) (op : Op) (now : ℕ) (replied : Result Reply Errno) (check : Option ℕ) → IsValid t → Represents t (effect whole pass op now) → Checks replied check
    → first_failure (checks whole pass op) ≡ check → IfOk replied (λ reply. reply ≡ success whole pass op now) → true ≡ keeps_rows whole pass op → name_used whole op ≡ None
    → IsPlanOf t whole pass op now (answer_plan replied)
idle_planned t whole pass op now (Ok reply) check v same checked own is keeps nameless = IsPlanOf-idle t whole pass op now reply v same (own ∙ checked) is keeps nameless
idle_planned t whole pass op now (Err errno) check v same checked own is keeps nameless = own ∙ checked

pub getattr_planned : (t : Tables) (whole : Tree) (pass x now : ℕ) (found : Option Inode) (replied : Result Reply Errno) → IsValid t → Represents t whole → found ≡ inode_at t x
    → Checks replied (first_failure (row_check found ∷ [])) → IfOk replied (IsReplyOf found (λ r. replies.Attr (attr_of_row r))) → IsPlanOf t whole pass (ops.Getattr x) now (answer_plan replied)
getattr_planned t whole pass x now found replied v same is checked made =
    idle_planned t whole pass (ops.Getattr x) now replied (first_failure (row_check found ∷ [])) v same checked
    (ap (λ c. first_failure (c ∷ [])) (node_check-row t whole same x ∙ ap row_check (sym is)))
    (if_reply_of replied found (inode_at t x) _ _ is made (λ r there few. sym (attr_is t whole x r v same there few))) refl refl

-- ---- one row is changed

-- the row of a number after it is put
pub put_there : (t : Tables) (new : Inode) → inode_at (after_change (changes.PutInode new) t) new.id ≡ Some new
put_there t new = row_at-put by_inode nat_cmp_total new.id new t.inodes ∙ ap (λ c. cond (is_eq c) (Some new) (inode_at t new.id)) (tied_itself nat_cmp_total new.id)

-- a change of a row that leaves its number, kind, count and size, and the same change of a node
pub record ChangesAlike (t : Tables) (change : Inode → Inode) (f : Node → Node) : Type 0 where
  pub id : (r : Inode) → (change r).id ≡ r.id
  pub kind : (r : Inode) → (change r).kind ≡ r.kind
  pub count : (r : Inode) → (change r).refcount ≡ r.refcount
  pub size : (r : Inode) → (change r).size ≡ r.size
  pub node : (node : Node) (r : Inode) → shape_of_node node ≡ node_of_row t r → shape_of_node (f node) ≡ node_of_row t (change r)

-- What checks answered is the plan of an operation that changes one node so, and answers with its attributes.
module _ (t : Tables) (whole : Tree) (pass x : ℕ) (op : Op) (now : ℕ) (change : Inode → Inode) (f : Node → Node) (v : IsValid t) (same : Represents t whole) (alike : ChangesAlike t change f)
    (does : effect whole pass op now ≡ change_node x f whole) (gives : success whole pass op now ≡ attr_reply (change_node x f whole) x) (changes_rows : false ≡ keeps_rows whole pass op) (nameless : name_used whole op ≡ None) where
  changed : (r new : Inode) → inode_at t x ≡ Some r → new ≡ change r → new.refcount < 2 ^ 62 → first_failure (checks whole pass op) ≡ None → IsPlanOf t whole pass op now (put_plan (Ok new))
  changed r new is made few passes =
      let at : x ≡ r.id = number_of t x r is in
      let id : new.id ≡ r.id = ap (λ (y : Inode). y.id) made ∙ alike.id r in
      let own : x ≡ new.id = at ∙ sym id in
      let there : inode_at t new.id ≡ Some r = ap (inode_at t) (sym own) ∙ is in
      let after : Tables = after_change (changes.PutInode new) t in
      let next : Tree = change_node new.id f whole in
      let valid : IsValid after = replaced_valid t r new v there (ap (λ (y : Inode). y.kind) made ∙ alike.kind r) (ap (λ (y : Inode). y.refcount) made ∙ alike.count r) (ap (λ (y : Inode). y.size) made ∙ alike.size r) in
      let represents : Represents after next = replaced_represents t whole r new f v.ordered.inodes same there (λ node shape. alike.node node r shape ∙ ap (node_of_row t) (sym made)) in
      let step : IsStep t after next (names_drawn whole op) = replaced t next (names_drawn whole op) new valid represents in (
        passes,
        sym (attr_is after next new.id new valid represents (put_there t new) few) ∙ ap (λ y. attr_reply (change_node y f whole) y) (sym own) ∙ sym gives,
        subst (λ (y : Tree). IsStep t after y (names_drawn whole op)) (ap (λ y. change_node y f whole) (sym own) ∙ sym does) step,
        changes_rows,
        refl,
        IsWorn-nameless t whole op nameless,
      )

  pub changed_planned : (found : Option Inode) (answered : Result Inode Errno) (check : Option ℕ) → found ≡ inode_at t x → Checks answered check → first_failure (checks whole pass op) ≡ check
      → IfOk answered (IsChangedRow found change) → IsPlanOf t whole pass op now (put_plan answered)
  changed_planned found (Ok new) check is checked own made = changed made.0 new (sym is ∙ made.1) made.2 made.3 (own ∙ checked)
  changed_planned found (Err errno) check is checked own made = own ∙ checked

-- ---- Chmod, Chown and Utimes

-- the checks on a node that is to be changed, from its row
module _ (t : Tables) (whole : Tree) (same : Represents t whole) (x : ℕ) (found : Option Inode) (is : found ≡ inode_at t x) where
  pub there : node_check (node_at whole x) ≡ row_check found
  there = node_check-row t whole same x ∙ ap row_check (sym is)

  pub unlocked : lock_check (node_at whole x) ≡ lock_row_check found
  unlocked = lock_check-row t whole same x ∙ ap lock_row_check (sym is)

pub chmod_planned : (t : Tables) (whole : Tree) (pass x mode now : ℕ) (found : Option Inode) (answered : Result Inode Errno) → IsValid t → Represents t whole → found ≡ inode_at t x
    → Checks answered (first_failure (mode_check mode ∷ row_check found ∷ lock_row_check found ∷ [])) → IfOk answered (IsChangedRow found (λ r. record r { mode = mode; ctime = now }))
    → IsPlanOf t whole pass (ops.Chmod x mode) now (put_plan answered)
chmod_planned t whole pass x mode now found answered v same is checked made =
    changed_planned t whole pass x (ops.Chmod x mode) now (λ r. record r { mode = mode; ctime = now }) (λ node. stamped now (record node { mode = mode })) v same (record {
      id = λ r. refl;
      kind = λ r. refl;
      count = λ r. refl;
      size = λ r. refl;
      node = λ node r shape. ap (λ (s : NodeShape). record s { mode = mode; ctime = now }) shape;
    }) refl refl refl refl found answered _ is checked (λ i. first_failure (mode_check mode ∷ there t whole same x found is i ∷ unlocked t whole same x found is i ∷ [])) made

pub chown_planned : (t : Tables) (whole : Tree) (pass x uid gid now : ℕ) (found : Option Inode) (answered : Result Inode Errno) → IsValid t → Represents t whole → found ≡ inode_at t x
    → Checks answered (first_failure (row_check found ∷ lock_row_check found ∷ [])) → IfOk answered (IsChangedRow found (λ r. record r { uid = uid; gid = gid; ctime = now }))
    → IsPlanOf t whole pass (ops.Chown x uid gid) now (put_plan answered)
chown_planned t whole pass x uid gid now found answered v same is checked made =
    changed_planned t whole pass x (ops.Chown x uid gid) now (λ r. record r { uid = uid; gid = gid; ctime = now }) (λ node. stamped now (record node { uid = uid; gid = gid })) v same (record {
      id = λ r. refl;
      kind = λ r. refl;
      count = λ r. refl;
      size = λ r. refl;
      node = λ node r shape. ap (λ (s : NodeShape). record s { uid = uid; gid = gid; ctime = now }) shape;
    }) refl refl refl refl found answered _ is checked (λ i. first_failure (there t whole same x found is i ∷ unlocked t whole same x found is i ∷ [])) made

pub utimes_planned : (t : Tables) (whole : Tree) (pass x mtime now : ℕ) (found : Option Inode) (answered : Result Inode Errno) → IsValid t → Represents t whole → found ≡ inode_at t x
    → Checks answered (first_failure (time_check mtime ∷ row_check found ∷ lock_row_check found ∷ [])) → IfOk answered (IsChangedRow found (λ r. record r { mtime = mtime; ctime = now }))
    → IsPlanOf t whole pass (ops.Utimes x mtime) now (put_plan answered)
utimes_planned t whole pass x mtime now found answered v same is checked made =
    changed_planned t whole pass x (ops.Utimes x mtime) now (λ r. record r { mtime = mtime; ctime = now }) (λ node. stamped now (record node { mtime = mtime })) v same (record {
      id = λ r. refl;
      kind = λ r. refl;
      count = λ r. refl;
      size = λ r. refl;
      node = λ node r shape. ap (λ (s : NodeShape). record s { mtime = mtime; ctime = now }) shape;
    }) refl refl refl refl found answered _ is checked (λ i. first_failure (time_check mtime ∷ there t whole same x found is i ∷ unlocked t whole same x found is i ∷ [])) made
