use Rattle.std.proofs.Common.{◌∙◌, ap, subst, List}
use Rattle.std.proofs.lemmas.Result.{on_ok_weaker}
use Rattle.s3_rows.specs.Rows.{Target, Attr, Inode, InodeBlock}
use Rattle.fsck_findings.specs.Found.{Adds, each_found}
use Rattle.fsck_findings.proofs.Looked.{Adds-then_also}
use Rattle.fsck_tables.specs.Rows.{about_target, about_attr, about_size, about_place}
use Rattle.fsck_tables.proofs.row_pass.look_at_rows.Goals as goal

pub returns : goal.returns
returns c =
    let t = c.args.tables.now in
    let p = c.args.params in
    let old = c.args.repair.now in
    let first = c.look_at_all.new.repair in
    let second = c.look_at_all-2.new.repair in
    let third = c.look_at_all-3.new.repair in
    let targets = subst (λ (rows : List Target). Adds (each_found (about_target t) rows) old first) (c.as_slice.ensures ∙ ap (λ t. t.targets) c.tables.view_is) c.in_ok-look_at_all.ensures in
    let attrs = subst (λ (rows : List Attr). Adds (each_found (about_attr t) rows) first second) (c.as_slice-2.ensures ∙ ap (λ t. t.attrs) c.tables.view_is) c.in_ok-look_at_all-2.ensures in
    let sizes = subst (λ (rows : List Inode). Adds (each_found (about_size t) rows) second third) (c.as_slice-3.ensures ∙ ap (λ t. t.inodes) c.tables.view_is) c.in_ok-look_at_all-3.ensures in
    let two = Adds-then_also _ _ old first second targets attrs in
    let three = Adds-then_also _ _ old second third two sizes in
    on_ok_weaker c.look_at_all-4.result
    (λ places. Adds-then_also _ _ old third c.look_at_all-4.new.repair three
    (subst (λ (rows : List InodeBlock). Adds (each_found (about_place t p) rows) third c.look_at_all-4.new.repair)
    (c.as_slice-4.ensures ∙ ap (λ t. t.inode_blocks) c.tables.view_is) places)) c.look_at_all-4.ensures
