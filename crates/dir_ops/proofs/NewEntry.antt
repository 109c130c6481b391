-- When the plan of an operation is right that makes an inode, of any kind, with an entry.
use Rattle.std.proofs.Common.{◌≡◌, ℕ, List, Bool, true, false, cond, Option, None, Some, refl, sym, ap, ◌∙◌}
use Rattle.std.specs.Prelude.{◌^◌, is_some, nat_lt, option_map}
use Rattle.op_frames.specs.declared.operation.Op.{Op}
use Rattle.op_frames.specs.declared.reply.Reply.{Reply}
use Rattle.plain_tree.specs.Tree.{Tree}
use Rattle.plain_tree.specs.Checks.{first_failure}
use Rattle.plain_tree.specs.Classes.{keeps_rows, names_drawn}
use Rattle.plain_tree.specs.Operations.{checks, effect, success}
use Rattle.s3_rows.specs.declared.change.Change.{Change}
use Rattle.s3_rows.specs.declared.change.Change.TheVariants as changes
use Rattle.s3_rows.specs.Rows.{Inode, Name, Parameters}
use Rattle.s3_rows.specs.Tables.{Tables}
use Rattle.s3_rows.specs.Batches.{tables_after}
use Rattle.s3_rows.specs.Selections.{name_of_bytes}
use Rattle.ref_counts.specs.Names.{Raised, raised, raised_of}
use Rattle.ref_counts.specs.Plans.{IsStep, IsPlanOf, IsWorn}
use Rattle.ref_counts.proofs.NonEmpty.{some_change}
use Rattle.row_steps.specs.RowChanges.{creation, drawn, with_drawn}
use Rattle.dir_ops.specs.Plans.{entry_plan}
use Rattle.dir_ops.proofs.Entering.{entering_planned}

-- ---- names that are worn

-- a number that is drawn wears no name
is_some-raised_drawn : (t : Tables) (p : Parameters) (name : List ℕ) → t.params ≡ Some p → is_some (raised (with_drawn p t) name) ≡ is_some (raised t name)
is_some-raised_drawn t p name set = by_row (name_of_bytes t name) ∙ ap (λ (q : Option Parameters). is_some (raised_of name (name_of_bytes t name) q)) (sym set)
  where
    by_room : (a b : Raised) (room : Bool) → is_some (cond room (Some a) None) ≡ is_some (cond room (Some b) None)
    by_room a b true = refl
    by_room a b false = refl

    by_row : (found : Option Name) → is_some (raised_of name found (Some (drawn p))) ≡ is_some (raised_of name found (Some p))
    by_row (Some n) = refl
    by_row None = by_room _ _ (nat_lt p.next_name (2 ^ 62))

none_of : (found : Option Raised) → is_some found ≡ false → found ≡ None
none_of None is = refl
none_of (Some more) is = absurd (cc is)

-- so it is worn after the draw where it was before, and back
pub none_from_drawn : (t : Tables) (p : Parameters) (name : List ℕ) → t.params ≡ Some p → raised (with_drawn p t) name ≡ None → raised t name ≡ None
none_from_drawn t p name set none = none_of (raised t name) (sym (is_some-raised_drawn t p name set) ∙ ap is_some none)

pub none_if_drawn : (t : Tables) (p : Parameters) (name : List ℕ) → t.params ≡ Some p → raised t name ≡ None → raised (with_drawn p t) name ≡ None
none_if_drawn t p name set none = none_of (raised (with_drawn p t) name) (is_some-raised_drawn t p name set ∙ ap is_some none)

-- ---- the plan

module _ (t : Tables) (whole : Tree) (pass : ℕ) (op : Op) (now : ℕ) (p : Parameters) (directory new : Inode) (name : List ℕ) (reply : Reply) where
  -- no check of the operation fails, it uses the name once more and changes rows, and after its batch come the tree and the reply
  pub record IsMaking : Type 0 where
    pub set : t.params ≡ Some p
    pub passes : first_failure (checks whole pass op) ≡ None
    pub worn : raised t name ≡ None → IsWorn t whole op
    pub usable : IsWorn t whole op → raised t name ≡ None
    pub changes : keeps_rows whole pass op ≡ false
    pub step : (more : Raised) → raised (with_drawn p t) name ≡ Some more → IsStep t (tables_after (creation p directory more new now) t) (effect whole pass op now) (names_drawn whole op)
    pub replies : (more : Raised) → raised (with_drawn p t) name ≡ Some more → reply ≡ success whole pass op now

  pub creation_planned : IsMaking → (batch : Option (List Change)) → batch ≡ option_map (λ (more : Raised). creation p directory more new now) (raised (with_drawn p t) name)
      → IsPlanOf t whole pass op now (entry_plan batch reply)
  creation_planned making batch is =
      entering_planned t whole pass op now (raised (with_drawn p t) name) (λ (more : Raised). creation p directory more new now) reply (record {
        passes = making.passes;
        worn = λ none. making.worn (none_from_drawn t p name making.set none);
        usable = λ worn. none_if_drawn t p name making.set (making.usable worn);
        changes = making.changes;
        some = λ more. some_change (changes.SetParams (drawn p)) _;
        step = making.step;
        replies = making.replies;
      }) batch is
