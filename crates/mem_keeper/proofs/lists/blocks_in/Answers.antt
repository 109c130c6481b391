use Rattle.std.proofs.Common.{◌≡◌, List, Bool, ◌&&◌, ◌==◌, nat_le, take, refl, sym, ap, ◌∙◌, subst}
use Rattle.std.specs.Prelude.{IsTrue, filter}
use Rattle.s3_rows.specs.Rows.{InodeBlock, IsInodeBlock}
use Rattle.s3_rows.specs.Keyed.{rises}
use Rattle.s3_rows.specs.Tables.{by_spot}
use Rattle.row_lemmas.proofs.Tables.{pair_cmp_total}
use Rattle.row_lemmas.proofs.Keyed.Rises.{rises-take, rises-filter}
use Rattle.mem_keeper.specs.Table.{rows_of}
use Rattle.mem_keeper.specs.Store.{tables_in}
use Rattle.mem_keeper.proofs.Standing.{if_ok_at}
use Rattle.mem_keeper.proofs.Tabled.{rises-rows_of}
use Rattle.mem_keeper.proofs.Parts.{filter_agree, listed_again, in_run}
use Rattle.mem_keeper.proofs.lists.blocks_in.Goals as goal

pub blocks_of_inode-requires : goal.blocks_of_inode-requires
blocks_of_inode-requires c =
    let all : List InodeBlock = rows_of c.args.maps.now.inode_blocks.entries in
    subst (λ (l : List InodeBlock). IsTrue (rises by_spot l)) (sym (c.deref.ensures.value ∙ c.in_ok-rows.ensures))
    (rises-take by_spot c.args.max (filter _ all) (rises-filter by_spot _ all (rises-rows_of by_spot pair_cmp_total c.args.maps.now.inode_blocks.entries c.requires.maps.inode_blocks)))

pub returns-clause-rows : goal.returns-clause-rows
returns-clause-rows c =
    let all : List InodeBlock = rows_of c.args.maps.now.inode_blocks.entries in
    let test : InodeBlock → Bool = λ r. r.inode == c.args.inode && nat_le c.args.from r.blockno in
    let part : c.deref.result.now ≡ take c.args.max (filter test all) =
    c.deref.ensures.value ∙ c.in_ok-rows.ensures
    ∙ ap (take c.args.max) (filter_agree IsInodeBlock _ test (in_run c.args.inode c.args.from) all c.requires.ranges.inode_blocks) in
    if_ok_at c.blocks_of_inode.result _ _
    (λ l h. h (record (tables_in c.args.maps.now) { inode_blocks = c.deref.result.now }) refl ∙ listed_again test c.args.max all c.deref.result.now part)
    c.blocks_of_inode.ensures.rows
