-- Valid tables owe nothing, and tables that owe nothing have the premises of valid ones.
use Rattle.std.proofs.Common.{◌≡◌, ℕ, ◌+◌, List, [], Some, sym, ap, ◌∙◌, subst, arith}
use Rattle.std.specs.Prelude.{IsTrue, ◌&&◌, ◌==◌, nat_le, nat_lt}
use Rattle.std.specs.List.{list_all}
use Rattle.std.proofs.lemmas.Bool.{and_parts}
use Rattle.s3_rows.specs.Rows.{Inode, Name, Content, Parameters}
use Rattle.s3_rows.specs.Tables.{Tables}
use Rattle.s3_rows.specs.Counts.{listed_inode_count, listed_name_count}
use Rattle.s3_rows.specs.Validity.{IsValid, HasDistinctBlocks, any_kind, counts_inode, counts_name, finds_of_entry, has_inode}
use Rattle.row_lemmas.proofs.Tests.{list_all_weaker}
use Rattle.tree_rows.specs.Premises.{HasPremises, FitsSizes, HasFreeIds, finds_directory_and_name}
use Rattle.tree_rows.proofs.Validity.Premises.{ForSome_from_is, HasPremises_from_valid}
use Rattle.row_steps.specs.Owed.{Owes, owes_links, owes_uses, times}
use Rattle.row_steps.proofs.Owed.Inodes.{below_from_there}

plus_none : (n : ℕ) → n + 0 ≡ n
plus_none n = omega arith

module _ (t : Tables) where
  counts_links : (r : Inode) → owes_links t [] r ≡ counts_inode t r
  counts_links r = ap (λ n. r.refcount == n) (plus_none (listed_inode_count t r.id))

  counts_uses : (r : Name) → owes_uses t [] r ≡ counts_name t r
  counts_uses r = ap (λ n. r.refcount == n && nat_le 1 r.refcount) (plus_none (listed_name_count t r.id))

  pub HasPremises-Owes : (p : Parameters) → Owes t p [] [] → HasPremises t
  HasPremises-Owes p o = record {
    ordered = o.ordered;
    names = o.unlike;
    counts = record {
      inodes = list_all_weaker (owes_links t []) (counts_inode t) (λ r own. sym (counts_links r) ∙ own) t.inodes o.inodes;
      names = list_all_weaker (owes_uses t []) (counts_name t) (λ r own. sym (counts_uses r) ∙ own) t.names o.names;
      blocks = o.blocks;
      objects = o.objects;
    };
    rows = o.rows;
    blocks = ForSome_from_is (HasDistinctBlocks t) t.params p o.made o.distinct;
    sizes = ForSome_from_is (FitsSizes t) t.params p o.made o.sizes;
    free = ForSome_from_is (HasFreeIds t) t.params p o.made o.free;
  }

  pub Owes-IsValid : (p : Parameters) → IsValid t → t.params ≡ Some p → Owes t p [] []
  Owes-IsValid p valid made =
      let premises : HasPremises t = HasPremises_from_valid t valid in
      let same : valid.params ≡ p = cc (valid.is_made, made) in
      let numbers : IsTrue (list_all (λ (r : Inode). nat_lt r.id p.next_inode) t.inodes) =
      subst (λ (q : Parameters). IsTrue (list_all (λ (r : Inode). nat_lt r.id q.next_inode) t.inodes)) same valid.free.inodes in
      record {
        made = made;
        ordered = valid.ordered;
        unlike = valid.tree.unlike;
        inodes = list_all_weaker (counts_inode t) (owes_links t []) (λ r own. counts_links r ∙ own) t.inodes valid.counts.inodes;
        names = list_all_weaker (counts_name t) (owes_uses t []) (λ r own. counts_uses r ∙ own) t.names valid.counts.names;
        blocks = valid.counts.blocks;
        objects = valid.counts.objects;
        rows = premises.rows;
        distinct = premises.blocks p made;
        sizes = premises.sizes p made;
        free = premises.free p made;
        numbers = numbers;
        children =
            list_all_weaker (finds_of_entry t) (λ (c : Content). nat_lt c.inode p.next_inode)
            (λ c own. below_from_there t p.next_inode numbers c.inode (λ kind size. any_kind kind)
            (and_parts (finds_directory_and_name t c) (has_inode any_kind t c.inode) own).1)
            t.contents valid.rows.entries;
      }

-- what is owed, in another order
pub Owes-times : (t : Tables) (p : Parameters) (links uses now : List ℕ) → Owes t p links uses → ((x : ℕ) → times x now ≡ times x links) → Owes t p now uses
Owes-times t p links uses now o same = record {
  made = o.made;
  ordered = o.ordered;
  unlike = o.unlike;
  inodes =
      list_all_weaker (owes_links t links) (owes_links t now) (λ r own. ap (λ n. r.refcount == listed_inode_count t r.id + n) (same r.id) ∙ own)
      t.inodes o.inodes;
  names = o.names;
  blocks = o.blocks;
  objects = o.objects;
  rows = o.rows;
  distinct = o.distinct;
  sizes = o.sizes;
  free = o.free;
  numbers = o.numbers;
  children = o.children;
}
