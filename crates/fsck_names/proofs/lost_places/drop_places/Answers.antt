use Rattle.std.proofs.Common.{◌++◌, List, not, map, sym, ap, subst, ◌∙◌}
use Rattle.std.specs.Prelude.{IsTrue}
use Rattle.fsck_findings.specs.Line.{line_of}
use Rattle.row_lemmas.proofs.Keyed.Rises.{rises-filter}
use Rattle.row_lemmas.proofs.Tables.{pair_cmp_total}
use Rattle.s3_rows.specs.Rows.{InodeBlock}
use Rattle.s3_rows.specs.Keyed.{rises}
use Rattle.s3_rows.specs.Tables.{Tables, IsOrdered, by_spot}
use Rattle.fsck_names.specs.Losses.{delete_place, is_lost, lost_block}
use Rattle.fsck_names.proofs.LostPlaces.{tables_after-places}
use Rattle.fsck_names.proofs.lost_places.drop_places.Goals as goal

pub invariant_of-tables : goal.invariant_of-tables
invariant_of-tables c =
    let test = is_lost c.args.tables.now in
    let ordered : IsOrdered c.args.tables.now = subst IsOrdered c.tables.view_is c.tables.invariant in
    let Rises : List InodeBlock → Type 0 = λ rows. IsTrue (rises by_spot rows) in
    let kept = rises-filter by_spot (λ r. not (test r)) c.args.tables.now.inode_blocks ordered.inode_blocks in
    record {
      inodes = c.tables.invariant.inodes;
      names = c.tables.invariant.names;
      contents = c.tables.invariant.contents;
      inode_blocks = subst Rises (sym (c.from.ensures ∙ c.in_ok-gone.ensures.1)) kept;
      blocks = c.tables.invariant.blocks;
      objects = c.tables.invariant.objects;
      targets = c.tables.invariant.targets;
      attrs = c.tables.invariant.attrs;
      slots = c.tables.invariant.slots;
    }

pub returns : goal.returns
returns c =
    let t = c.args.tables.now in
    let test = is_lost t in
    let gone = c.as_slice.ensures.value ∙ c.in_ok-gone.ensures.0 in
    let ordered : IsOrdered t = subst IsOrdered c.tables.view_is c.tables.invariant in
    let told = c.in_ok-tell_lost.ensures in
    record {
      tables =
          ap (λ (t : Tables). record t { inode_blocks = c.from.result }) c.tables.view_is
          ∙ ap (λ (rows : List InodeBlock). record t { inode_blocks = rows }) (c.from.ensures ∙ c.in_ok-gone.ensures.1)
          ∙ sym (tables_after-places pair_cmp_total test t ordered.inode_blocks);
      batch = told.batch ∙ ap (λ (rows : List InodeBlock). c.args.repair.now.batch ++ map delete_place rows) gone;
      findings = told.findings ∙ ap (λ (rows : List InodeBlock). c.args.repair.now.findings ++ map line_of (map lost_block rows)) gone;
    }
