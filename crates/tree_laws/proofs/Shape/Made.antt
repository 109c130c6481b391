-- The tree that was just made is one tree of names without orphans.
use Rattle.std.proofs.Common.{◌≡◌, ◌<◌, ℕ, zero, suc, List, [], ◌∷◌, Bool, true, false, cond, None, Some, refl, sym, ap, ◌∙◌, ◌⊎◌, inl, inr, arith}
use Rattle.std.proofs.lemmas.List.Elements.{All-nil}
use Rattle.std.specs.BTreeMap.{is_at}
use Rattle.std.specs.Cmp.Lexicographic.{slice_cmp}
use Rattle.std.specs.Ordering.{nat_cmp}
use Rattle.s3_base.specs.declared.node_kind.Kind.{Kind}
use Rattle.s3_base.specs.declared.node_kind.Kind.TheVariants as kinds
use Rattle.plain_tree.specs.Entries.{entry_at}
use Rattle.s3_base.specs.Numbers.{root}
use Rattle.plain_tree.specs.Tree.{Directory, lost_and_found, empty_directory, made_tree, node_at}
use Rattle.tree_laws.proofs.Node.Keys.{same_name, same_number}
use Rattle.tree_laws.proofs.Node.Kind.{kind_in, entry_in}
use Rattle.tree_laws.proofs.Shape.Steps.{Sound}
use Rattle.tree_laws.proofs.Shape.Tree.{shape_of}
use Rattle.tree_laws.proofs.Shape.Words.{Grown, NoneGoes}

-- ---- the tree that was just made

one_name : (n : List ℕ) (x : ℕ) (test : Bool) → is_at (slice_cmp nat_cmp n) lost_and_found ≡ test → cond test (Some 2) None ≡ Some x → (n ≡ lost_and_found) × (x ≡ 2)
one_name n x true here is =
    let same : 2 ≡ x = cc is in
    (same_name n lost_and_found here, sym same)
one_name n x false here is = absurd (cc is)

-- the only entry is lost+found in the root
entry_made : (block_size now p x : ℕ) (n : List ℕ) (first second : Bool) → is_at (nat_cmp p) 1 ≡ first → is_at (nat_cmp p) 2 ≡ second
    → entry_in n (cond first (Some (record (empty_directory 493 now) { content = Directory ((lost_and_found, 2) ∷ []) })) (cond second (Some (empty_directory 448 now)) None)) ≡ Some x
    → (p ≡ root) × (n ≡ lost_and_found) × (x ≡ 2)
entry_made block_size now p x n true second here other is =
    let found = one_name n x (is_at (slice_cmp nat_cmp n) lost_and_found) refl is in
    (same_number p 1 here, found.0, found.1)
entry_made block_size now p x n false true here other is = absurd (cc is)
entry_made block_size now p x n false false here other is = absurd (cc is)

-- the only entry is lost+found
pub made_entry : (block_size now p x : ℕ) (n : List ℕ) → entry_at (made_tree block_size now) p n ≡ Some x → (p ≡ root) × (n ≡ lost_and_found) × (x ≡ 2)
made_entry block_size now p x n is = entry_made block_size now p x n (is_at (nat_cmp p) 1) (is_at (nat_cmp p) 2) refl refl is

kind_made : (now x : ℕ) (k : Kind) (first second : Bool) → is_at (nat_cmp x) 1 ≡ first → is_at (nat_cmp x) 2 ≡ second
    → kind_in (cond first (Some (record (empty_directory 493 now) { content = Directory ((lost_and_found, 2) ∷ []) })) (cond second (Some (empty_directory 448 now)) None)) ≡ Some k
    → (x ≡ root) ⊎ (x ≡ 2)
kind_made now x k true second here other is = inl (same_number x 1 here)
kind_made now x k false true here other is = inr (same_number x 2 other)
kind_made now x k false false here other is = absurd (cc is)

made_kind : (block_size now x : ℕ) (k : Kind) → kind_in (node_at (made_tree block_size now) x) ≡ Some k → (x ≡ root) ⊎ (x ≡ 2)
made_kind block_size now x k is = kind_made now x k (is_at (nat_cmp x) 1) (is_at (nat_cmp x) 2) refl refl is

root_kind : (block_size now : ℕ) → kind_in (node_at (made_tree block_size now) root) ≡ Some kinds.Directory
root_kind block_size now = refl

lost_kind : (block_size now : ℕ) → kind_in (node_at (made_tree block_size now) 2) ≡ Some kinds.Directory
lost_kind block_size now = refl

lost_entry : (block_size now : ℕ) → entry_at (made_tree block_size now) root lost_and_found ≡ Some 2
lost_entry block_size now = refl

made_grown : (block_size now : ℕ) → Grown NoneGoes (shape_of (made_tree block_size now))
made_grown block_size now = record {
  rooted = root_kind block_size now;
  top = λ p n is.
      let found = made_entry block_size now p root n is in
      absurd (omega (arith, found.2));
  kept = (2, lost_entry block_size now, lost_kind block_size now);
  holds = λ p x n is.
      let found = made_entry block_size now p x n is in
      ap (λ k. kind_in (node_at (made_tree block_size now) k)) found.0 ∙ root_kind block_size now;
  there = λ p x n is.
      let found = made_entry block_size now p x n is in
      (kinds.Directory, ap (λ k. kind_in (node_at (made_tree block_size now) k)) found.2 ∙ lost_kind block_size now);
  once = λ p q x n m kind first second.
      let one = made_entry block_size now p x n first in
      let other = made_entry block_size now q x m second in
      (other.0 ∙ sym one.0, other.1 ∙ sym one.1);
  leads = λ x stays is.
      elim (made_kind block_size now x kinds.Directory is) [
        | inl top ↦ (zero, top)
        | inr lost ↦ (suc zero, (root, lost_and_found, lost_entry block_size now ∙ ap Some (sym lost), refl))
      ];
  orphans = λ x k stays is inner unnamed.
      elim (made_kind block_size now x k is) [
        | inl top ↦ absurd (inner top)
        | inr lost ↦ absurd (unnamed root lost_and_found (lost_entry block_size now ∙ ap Some (sym lost)))
      ];
  handles = λ x is. absurd (cc is);
  bare = λ x goes. absurd goes;
  empty = λ x n goes. absurd goes;
  inner = λ x goes. absurd goes;
}

-- the tree is one tree of names without orphans
pub made_sound : (block_size now : ℕ) → Sound (made_tree block_size now)
made_sound block_size now = record {
  ordered = (omega arith, (omega arith, omega arith));
  names = (_, (_, _));
  below = All-nil (λ k. k < 1);
  grown = made_grown block_size now;
}
