-- A core that was just opened.
use Rattle.std.proofs.Common.{◌≡◌, [], ◌∷◌, length, Option, Some, refl, sym, ap, ◌∙◌}
use Rattle.std.specs.Prelude.{◌||◌, not, option_map, unwrap_or}
use Rattle.plain_tree.specs.Tree.{Tree}
use Rattle.s3_rows.specs.declared.change.Change.TheVariants as changes
use Rattle.s3_rows.specs.Rows.{Parameters}
use Rattle.s3_rows.specs.Tables.{Tables}
use Rattle.s3_rows.specs.Ranges.{HasRanges}
use Rattle.s3_rows.specs.Told.{Told, one_more, with_batch}
use Rattle.s3_rows.specs.Validity.{IsValid, is_directory, is_below_root}
use Rattle.row_lemmas.proofs.Tables.{IsOrdered-after_change, leads_to_root_same}
use Rattle.row_lemmas.proofs.Tests.{list_all_weaker}
use Rattle.tree_rows.specs.Shapes.{shape_of_tables, Represents}
use Rattle.tree_rows.proofs.WellFormed.Opened.{IsWellFormed_from_named}
use Rattle.ref_counts.specs.Handles.{no_handles}
use Rattle.volume_core.specs.declared.row_core.RowCore.{RowCore}
use Rattle.volume_core.specs.Opening.{AreReady, IsOpened, IsMounting, mounted}
use Rattle.volume_core.specs.Standing.{StandsFor}

-- ---- tables with other parameters

module _ (t : Tables) (v : IsValid t) where
  abbrev served_params : Parameters
  served_params = mounted v.params

  abbrev pub served : Tables
  served = record t { params = Some served_params }

  pub served_valid : IsValid served
  served_valid = record {
    params = served_params;
    is_made = refl;
    ordered = IsOrdered-after_change (changes.SetParams served_params) t v.ordered;
    counts = record { inodes = v.counts.inodes; names = v.counts.names; blocks = v.counts.blocks; objects = v.counts.objects };
    rows = record {
      entries = v.rows.entries;
      inode_blocks = v.rows.inode_blocks;
      objects = v.rows.objects;
      targets = v.rows.targets;
      links = v.rows.links;
      attrs = v.rows.attrs;
      slots = v.rows.slots;
    };
    tree = record {
      is_rooted = v.tree.is_rooted;
      root_is_unnamed = v.tree.root_is_unnamed;
      named_once = v.tree.named_once;
      below_root = list_all_weaker (is_below_root t) (is_below_root served) (λ r below. ap (λ b. not (is_directory r.kind) || b) (leads_to_root_same t served refl (length t.inodes) r.id) ∙ below) t.inodes v.tree.below_root;
      legal = v.tree.legal;
      unlike = v.tree.unlike;
      keeps_lost_and_found = v.tree.keeps_lost_and_found;
    };
    orphans = v.orphans;
    blocks = record { digests = v.blocks.digests; objects = v.blocks.objects; sizes = v.blocks.sizes; within = v.blocks.within };
    sizes = record {
      inodes = v.sizes.inodes;
      inode_blocks = v.sizes.inode_blocks;
      slots = v.sizes.slots;
      spots = v.sizes.spots;
      numbers = v.sizes.numbers;
      lengths = v.sizes.lengths;
    };
    free = record { inodes = v.free.inodes; names = v.free.names; blocks = v.free.blocks; objects = v.free.objects };
  }

  shape_same : shape_of_tables served ≡ shape_of_tables t
  shape_same = ap (λ (p : Option Parameters). record (shape_of_tables t) {
    block_size = unwrap_or (option_map (λ (q : Parameters). q.block_size) p) 0;
    next_inode = unwrap_or (option_map (λ (q : Parameters). q.next_inode) p) 0;
  }) (sym v.is_made)

  pub served_represents : (whole : Tree) → Represents t whole → Represents served whole
  served_represents whole same = shape_same ∙ same

-- a core with the tables of a file system that is mounted, and no handles
pub opened : {K : Type 0} (told : K → Option Told) (core : RowCore K) (s : Told) (whole : Tree) → AreReady s.tables → Represents s.tables whole → IsOpened whole → IsMounting s (told core.keeper) → HasRanges s.tables
    → core.handles ≡ no_handles → StandsFor told core whole
opened told core s whole ready same start mounting ranges handles =
    let v : IsValid s.tables = ready.served.valid in
    let p : Parameters = mounting.0 in
    let own : Some p ≡ Some v.params = sym mounting.1 ∙ v.is_made in
    let params : mounted p ≡ mounted v.params = cc own in
    record {
      now = record { tables = served s.tables v; commits = one_more s.commits };
      tells = mounting.3 ∙ ap (λ (q : Parameters). Some (with_batch (changes.SetParams q ∷ []) s)) params;
      served = record {
        valid = served_valid s.tables v;
        unique = ready.served.unique;
        slots = ready.served.slots;
      };
      mounted = refl;
      represents = served_represents s.tables v whole same;
      well = IsWellFormed_from_named s.tables whole v ranges ready.named same start.1 start.0;
      handles = (start.0 ∙ ap (λ h. h.next) (sym handles), start.1 ∙ ap (λ h. h.handles) (sym handles));
    }
