-- Steps by which rows go and no number is drawn.
use Rattle.std.proofs.Common.{◌≡◌, ◌≤◌, [], length, Option, refl, ap, arith}
use Rattle.std.specs.Prelude.{option_map, unwrap_or}
use Rattle.plain_tree.specs.Tree.{Tree}
use Rattle.plain_tree.specs.WellFormed.{IsWellFormed}
use Rattle.s3_rows.specs.Rows.{Parameters}
use Rattle.s3_rows.specs.Tables.{Tables}
use Rattle.s3_rows.specs.Validity.{HasUniqueNames}
use Rattle.tree_rows.specs.Shapes.{Represents}
use Rattle.tree_rows.proofs.Validity.Tables.{IsValid_from_tree}
use Rattle.ref_counts.specs.Plans.{IsStep, next_inode_of, next_name_of, settings}
use Rattle.ref_counts.proofs.Rest.{LeavesRest-LeavesBlocks}
use Rattle.row_steps.specs.Owed.{Owes}
use Rattle.row_steps.proofs.Owed.Ends.{HasPremises-Owes}

-- rows of inodes, entries and attributes went, and all else but names is as before
pub record IsLess (t u : Tables) : Type 0 where
  pub params : u.params ≡ t.params
  pub inode_blocks : u.inode_blocks ≡ t.inode_blocks
  pub blocks : u.blocks ≡ t.blocks
  pub objects : u.objects ≡ t.objects
  pub slots : u.slots ≡ t.slots
  pub contents : length u.contents ≤ length t.contents
  pub attrs : length u.attrs ≤ length t.attrs

-- a step by which no number is drawn
pub IsStep-less : (t u : Tables) (next : Tree) (p : Parameters) → Owes u p [] [] → Represents u next → IsWellFormed next
    → (HasUniqueNames t → HasUniqueNames u) → IsLess t u → IsStep t u next 0
IsStep-less t u next p o same well unique less =
    let inode : next_inode_of u ≡ next_inode_of t = ap (λ (found : Option Parameters). unwrap_or (option_map (λ q. q.next_inode) found) 0) less.params in
    let id : next_name_of u ≡ next_name_of t = ap (λ (found : Option Parameters). unwrap_or (option_map (λ q. q.next_name) found) 0) less.params in
    record {
      valid = IsValid_from_tree u next (HasPremises-Owes u p o) same well;
      represents = same;
      unique = unique;
      rest = LeavesRest-LeavesBlocks t u (record {
        params = ap (option_map settings) less.params;
        next_inode = omega (arith, inode);
        next_name = omega (arith, id);
        inode_blocks = less.inode_blocks;
        blocks = less.blocks;
        objects = less.objects;
        slots = less.slots;
      });
      small = record { names = omega (arith, id); uses = omega (arith, less.contents, less.attrs) };
    }

pub IsLess-refl : (t : Tables) → IsLess t t
IsLess-refl t = record { params = refl; inode_blocks = refl; blocks = refl; objects = refl; slots = refl; contents = omega arith; attrs = omega arith }
