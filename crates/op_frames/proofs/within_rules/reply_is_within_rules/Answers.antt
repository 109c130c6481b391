use Rattle.std.proofs.Common.{IsTrue, arith, subst, sym}
use Rattle.std.proofs.lemmas.Bool.{and_from}
use Rattle.op_frames.specs.declared.reply.Reply.{Reply}
use Rattle.op_frames.specs.Replies.{is_reply}
use Rattle.op_frames.specs.Rules.{has_fit_fields}
use Rattle.op_frames.proofs.Rules.{u32_allows, u64_allows, data_allows, names_allow, stat_allows, cause_allows, lost_allows}
use Rattle.op_frames.proofs.within_rules.reply_is_within_rules.Goals as goal

pub returns-in-Count : goal.returns-in-Count
returns-in-Count c = subst (λ (r : Reply). IsTrue (is_reply r)) (sym c.in-Count.is) (u32_allows c.in-Count.count (omega arith))

pub returns-in-Stat : goal.returns-in-Stat
returns-in-Stat c =
    subst (λ (r : Reply). IsTrue (is_reply r)) (sym c.in-Stat.is)
    (stat_allows c.in-Stat.block_size c.in-Stat.inodes c.in-Stat.entries c.in-Stat.bytes (omega arith) (omega arith) (omega arith) (omega arith))

pub returns-in-Lost : goal.returns-in-Lost
returns-in-Lost c =
    subst (λ (r : Reply). IsTrue (is_reply r)) (sym c.in-Lost.is)
    (lost_allows c.in-Lost.object c.in-Lost.kept c.in-Lost.got (omega arith) (subst (λ (r : Reply). IsTrue (has_fit_fields r)) c.in-Lost.is c.requires))

pub returns-in-Opened : goal.returns-in-Opened
returns-in-Opened c = subst (λ (r : Reply). IsTrue (is_reply r)) (sym c.in-Opened.is) (and_from _ _ (u64_allows c.in-Opened.handle (omega arith)) c.attr_is_within_rules-in-Opened.ensures)

pub returns-in-Bytes : goal.returns-in-Bytes
returns-in-Bytes c =
    subst (λ (r : Reply). IsTrue (is_reply r)) (sym c.in-Bytes.is)
    (data_allows c.in-Bytes.field-0 (subst (λ (r : Reply). IsTrue (has_fit_fields r)) c.in-Bytes.is c.requires))

pub returns-in-Names : goal.returns-in-Names
returns-in-Names c =
    subst (λ (r : Reply). IsTrue (is_reply r)) (sym c.in-Names.is)
    (names_allow c.in-Names.field-0 (subst (λ (r : Reply). IsTrue (has_fit_fields r)) c.in-Names.is c.requires))

pub returns-in-Fault : goal.returns-in-Fault
returns-in-Fault c = subst (λ (r : Reply). IsTrue (is_reply r)) (sym c.in-Fault.is) (cause_allows c.in-Fault.field-0)
