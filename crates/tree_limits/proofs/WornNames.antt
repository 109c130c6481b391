-- A count of a name that is worn is that of a full name, and counts of links are not worn while inodes have few names.
use Rattle.std.proofs.Common.{◌≡◌, ◌<◌, ◌≤◌, ◌+◌, ◌^◌, ℕ, List, Bool, true, false, cond, inl, inr, Option, None, Some, refl, sym, ap, ◌∙◌, ⊎_elim, arith, lt-ltb}
use Rattle.std.proofs.lemmas.Bool.{cases_lt}
use Rattle.std.specs.Prelude.{◌==◌, count_by, nat_lt, option_map, unwrap_or}
use Rattle.op_frames.specs.declared.operation.Op.{Op}
use Rattle.plain_tree.specs.Classes.{inode_linked, name_used}
use Rattle.plain_tree.specs.Tree.{Tree}
use Rattle.tree_laws.specs.Growth.{HaveFewNames}
use Rattle.s3_rows.specs.Rows.{Content, Inode, Name, Parameters}
use Rattle.s3_rows.specs.Selections.{inode_at, name_at, name_of_bytes}
use Rattle.s3_rows.specs.Tables.{Tables}
use Rattle.s3_rows.specs.Validity.{IsValid}
use Rattle.tree_rows.specs.Shapes.{Represents}
use Rattle.tree_rows.proofs.NamedAttrs.{named_there}
use Rattle.tree_rows.proofs.Rooted.{stored_count}
use Rattle.tree_rows.proofs.Whole.{count_is}
use Rattle.ref_counts.specs.Names.{new_row, raised, raised_of, raised_row}
use Rattle.ref_counts.specs.Plans.{next_name_of, IsCountWorn, IsNameWorn, IsWorn, IsWornFor}
use Rattle.inode_ops.specs.Uses.{name_uses}
use Rattle.tree_limits.specs.Full.{IsNameFull}

-- a name is needed, and it is full
abbrev IsUsedUp : Tree → Option (List ℕ) → Type 0
IsUsedUp whole used = elim used [ Some name ↦ 2 ^ 62 ≤ name_uses whole name + 1 | None ↦ ⊥ ]

-- the inode that is there counts one link too many
abbrev CountsTooMany : Option Inode → Type 0
CountsTooMany found = elim found [ Some r ↦ 2 ^ 62 ≤ r.refcount + 1 | None ↦ ⊥ ]

at_end : {X : Type 0} (x : X) (n m : ℕ) → cond (nat_lt n m) (Some x) None ≡ None → m ≤ n
at_end x n m none =
    elim (cases_lt n m) [
      | inl less ↦
          let clash : Some x ≡ None = sym (ap (λ b. cond b (Some x) None) (lt-ltb n m less)) ∙ none in
          absurd (cc clash)
      | inr above ↦ above
    ]

module _ (t : Tables) (whole : Tree) (v : IsValid t) (same : Represents t whole) (counts : (n : Name) → name_at t n.id ≡ Some n → n.refcount ≡ name_uses whole n.name)
    (few_names : next_name_of t < 2 ^ 62) where
  row_is_full : (name : List ℕ) (n : Name) → name_of_bytes t name ≡ Some n → raised_row n ≡ None → 2 ^ 62 ≤ name_uses whole name + 1
  row_is_full name n there worn =
      let own = named_there t v.ordered.names name n there in
      let count : n.refcount ≡ name_uses whole name = counts n own.0 ∙ ap (name_uses whole) own.1 in
      let end : 2 ^ 62 ≤ n.refcount + 1 = at_end _ (n.refcount + 1) (2 ^ 62) worn in
      omega (arith, count, end)

  -- a number is left for a new name
  new_has_room : (name : List ℕ) (p : Parameters) → t.params ≡ Some p → new_row name p ≡ None → ⊥
  new_has_room name p is worn =
      let next : next_name_of t ≡ p.next_name = ap (λ (q : Option Parameters). unwrap_or (option_map (λ (x : Parameters). x.next_name) q) 0) is in
      let end : 2 ^ 62 ≤ p.next_name = at_end _ p.next_name (2 ^ 62) worn in
      omega (arith, next, end, few_names)

  name_is_full : (name : List ℕ) → raised t name ≡ None → 2 ^ 62 ≤ name_uses whole name + 1
  name_is_full name worn = by_row (name_of_bytes t name) refl worn
    where
      by_row : (found : Option Name) → name_of_bytes t name ≡ found → raised_of name found t.params ≡ None → 2 ^ 62 ≤ name_uses whole name + 1
      by_row (Some n) there is = row_is_full name n there is
      by_row None there is =
          let own : raised_of name None (Some v.params) ≡ None = ap (raised_of name None) (sym v.is_made) ∙ is in
          absurd (new_has_room name v.params v.is_made own)

  -- an inode counts no more links than there are entries that name it, and the root one
  links_have_room : (most : ℕ) → HaveFewNames most whole → most + 1 < 2 ^ 62 → (inode : ℕ) → IsCountWorn t inode → ⊥
  links_have_room most few low inode worn = by_row (inode_at t inode) refl worn
    where
      below : (b : Bool) → cond b 1 (count_by (λ (c : Content). c.inode == inode) t.contents) + 1 < 2 ^ 62
      below true = omega arith
      below false = omega (arith, count_is t v.rows.entries v.tree.unlike v.ordered.inodes whole same inode, few inode, low)

      by_row : (found : Option Inode) → inode_at t inode ≡ found → CountsTooMany found → ⊥
      by_row None there is = is
      by_row (Some r) there is = omega (arith, stored_count t inode r v there, below (inode == 1), is)

  pub worn_is_full : (most : ℕ) → HaveFewNames most whole → most + 1 < 2 ^ 62 → (op : Op) → IsWorn t whole op → IsNameFull whole op
  worn_is_full most few low op worn = by_inode (inode_linked op) worn
    where
      by_name : (used : Option (List ℕ)) → IsNameWorn t used → IsUsedUp whole used
      by_name None is = is
      by_name (Some name) is = name_is_full name is

      by_inode : (linked : Option ℕ) → IsWornFor t (name_used whole op) linked → IsNameFull whole op
      by_inode None is = by_name (name_used whole op) is
      by_inode (Some inode) is = ⊎_elim (by_name (name_used whole op)) (λ full. absurd (links_have_room most few low inode full)) is
