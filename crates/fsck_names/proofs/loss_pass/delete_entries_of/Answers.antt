use Rattle.std.proofs.Common.{◌==◌, ◌++◌, List, Bool, not, filter, map, sym, ap, subst, ◌∙◌}
use Rattle.std.specs.Prelude.{IsTrue}
use Rattle.row_lemmas.proofs.Keyed.Rises.{rises-filter}
use Rattle.row_lemmas.proofs.Tables.{pair_cmp_total}
use Rattle.s3_rows.specs.Rows.{Content}
use Rattle.s3_rows.specs.Keyed.{rises}
use Rattle.s3_rows.specs.Tables.{Tables, IsOrdered, by_entry}
use Rattle.fsck_names.specs.Entries.{delete_entry}
use Rattle.fsck_names.proofs.Taken.{append-none}
use Rattle.fsck_names.proofs.Removed.{tables_after-dropped}
use Rattle.fsck_names.proofs.loss_pass.delete_entries_of.Goals as goal

pub invariant_of-tables : goal.invariant_of-tables
invariant_of-tables c =
    let test : Content → Bool = λ r. r.inode == c.args.inode in
    let ordered : IsOrdered c.args.tables.now = subst IsOrdered c.tables.view_is c.tables.invariant in
    let Rises : List Content → Type 0 = λ rows. IsTrue (rises by_entry rows) in
    let rows = c.as_slice.ensures ∙ ap (λ t. t.contents) c.tables.view_is in
    let left = c.from.ensures ∙ c.in_ok-gone.ensures.1 ∙ ap (λ (rows : List Content). filter (λ r. not (test r)) rows) rows in
    let kept = rises-filter by_entry (λ r. not (test r)) c.args.tables.now.contents ordered.contents in
    record {
      inodes = c.tables.invariant.inodes;
      names = c.tables.invariant.names;
      contents = subst Rises (sym left) kept;
      inode_blocks = c.tables.invariant.inode_blocks;
      blocks = c.tables.invariant.blocks;
      objects = c.tables.invariant.objects;
      targets = c.tables.invariant.targets;
      attrs = c.tables.invariant.attrs;
      slots = c.tables.invariant.slots;
    }

pub returns : goal.returns
returns c =
    let test : Content → Bool = λ r. r.inode == c.args.inode in
    let t = c.args.tables.now in
    let rows = c.as_slice.ensures ∙ ap (λ t. t.contents) c.tables.view_is in
    let left = c.from.ensures ∙ c.in_ok-gone.ensures.1 ∙ ap (λ (rows : List Content). filter (λ r. not (test r)) rows) rows in
    let gone = c.as_slice-2.ensures.value ∙ c.in_ok-gone.ensures.0 ∙ ap (λ (rows : List Content). filter test rows) rows in
    let ordered : IsOrdered t = subst IsOrdered c.tables.view_is c.tables.invariant in
    let told = c.in_ok-tell_deleted.ensures in
    record {
      tables =
          ap (λ (t : Tables). record t { contents = c.from.result }) c.tables.view_is
          ∙ ap (λ (rows : List Content). record t { contents = rows }) left
          ∙ sym (tables_after-dropped pair_cmp_total test t ordered.contents);
      batch = told.batch ∙ ap (λ (rows : List Content). c.args.repair.now.batch ++ map delete_entry rows) gone;
      findings = told.findings ∙ sym (append-none c.args.repair.now.findings);
    }
