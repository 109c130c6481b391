-- Steps before which the places of files that go name no block any more.
use Rattle.std.proofs.Common.{◌≡◌, ℕ, List, [], ◌∷◌, ◌++◌, Bool, true, false, Option, None, refl, sym, ap, ◌∙◌, arith, eqb-true}
use Rattle.std.specs.Prelude.{IsTrue, not, ◌&&◌, ◌==◌, is_some, length, nat_le, option_map, unwrap_or}
use Rattle.std.specs.Cmp.{nat_cmp_total}
use Rattle.std.proofs.lemmas.Bool.Decides.{nat_tests}
use Rattle.std.specs.List.{list_all}
use Rattle.plain_tree.specs.Tree.{Tree}
use Rattle.s3_rows.specs.declared.change.Change.{Change}
use Rattle.s3_rows.specs.declared.change.Change.TheVariants as changes
use Rattle.s3_rows.specs.Rows.{Attr, Content, Inode, InodeBlock, Name, Parameters, Target}
use Rattle.s3_rows.specs.Keyed.{row_at}
use Rattle.s3_rows.specs.Tables.{Tables, by_entry, by_inode, by_name, by_target}
use Rattle.s3_rows.specs.Batches.{tables_after}
use Rattle.s3_rows.specs.Selections.{entry_at, inode_at, name_at, name_of_bytes, target_at}
use Rattle.s3_rows.specs.Validity.{IsValid}
use Rattle.row_lemmas.proofs.Tests.{list_all_weaker}
use Rattle.row_lemmas.proofs.Keyed.Without.{row_at-without_same}
use Rattle.row_lemmas.proofs.Tables.{tables_after-tables_after}
use Rattle.tree_rows.specs.Spots.{form_at}
use Rattle.ref_counts.specs.Links.{places_dropped, places_from, places_of_gone}
use Rattle.ref_counts.specs.Plans.{IsStep, next_inode_of, next_name_of, settings}
use Rattle.ref_counts.specs.Removals.{attrs_dropped, attrs_of, removal, removals, target_dropped}
use Rattle.block_steps.specs.Owed.{KeepsNames}
use Rattle.block_steps.proofs.DebtsTables.{OwesPlaces-IsValid}
use Rattle.block_steps.proofs.DroppedPlaces.{AreRowsOf-places_dropped, KeepsNames-places_dropped, form_at-places_from, inode_blocks-places_from, params-places_dropped}
use Rattle.block_steps.proofs.KeptNames.{AreRowsOf-trans, HasUniqueNames-KeepsNames}

module _ (t : Tables) (rows : List InodeBlock) where
  abbrev pub cleared : Tables
  cleared = tables_after (places_dropped rows t) t

  pub names-cleared : KeepsNames t cleared
  names-cleared = KeepsNames-places_dropped rows t

  pub inode_at-cleared : (x : ℕ) → inode_at cleared x ≡ inode_at t x
  inode_at-cleared x = ap (λ (found : List Inode). row_at by_inode x found) names-cleared.inodes

  pub name_at-cleared : (x : ℕ) → name_at cleared x ≡ name_at t x
  name_at-cleared x = ap (λ (found : List Name). row_at by_name x found) names-cleared.names

  pub name_of_bytes-cleared : (bytes : List ℕ) → name_of_bytes cleared bytes ≡ name_of_bytes t bytes
  name_of_bytes-cleared bytes = ap (λ (found : List Name). name_of_bytes (record t { names = found }) bytes) names-cleared.names

  pub entry_at-cleared : (parent name_id : ℕ) → entry_at cleared parent name_id ≡ entry_at t parent name_id
  entry_at-cleared parent name_id = ap (λ (found : List Content). row_at by_entry (parent, name_id) found) names-cleared.contents

  pub removal-cleared : (x : ℕ) (u : Tables) → removal t x u ≡ removal cleared x u
  removal-cleared x u =
      ap (λ (attrs : List Attr). attrs_dropped (attrs_of (record t { attrs = attrs }) x) u ++ target_dropped (target_at t x) x ++ changes.DeleteInode x ∷ []) (sym names-cleared.attrs)
      ∙ ap (λ (targets : List Target). attrs_dropped (attrs_of cleared x) u ++ target_dropped (row_at by_target x targets) x ++ changes.DeleteInode x ∷ []) (sym names-cleared.targets)

  pub removals-cleared : (xs : List ℕ) (u : Tables) → removals t xs u ≡ removals cleared xs u
  removals-cleared [] u = refl
  removals-cleared (x ∷ xs) u =
      ap (λ (cs : List Change). cs ++ removals t xs (tables_after cs u)) (removal-cleared x u)
      ∙ ap (λ (cs : List Change). removal cleared x u ++ cs) (removals-cleared xs (tables_after (removal cleared x u) u))

  -- changes behind those of the places are changes of the tables that these leave
  pub after-cleared : (D : List Change) → tables_after (places_dropped rows t ++ D) t ≡ tables_after D cleared
  after-cleared D = sym (tables_after-tables_after (places_dropped rows t) D t)

  -- and so are those by which an inode goes behind these
  pub after_removal-cleared : (D : List Change) (x : ℕ)
      → tables_after (places_dropped rows t ++ D ++ removal t x (tables_after (places_dropped rows t ++ D) t)) t ≡ tables_after (D ++ removal cleared x (tables_after D cleared)) cleared
  after_removal-cleared D x =
      sym (tables_after-tables_after (places_dropped rows t ++ D) (removal t x (tables_after (places_dropped rows t ++ D) t)) t)
      ∙ ap (λ (w : Tables). tables_after (removal t x w) w) (after-cleared D)
      ∙ ap (λ (cs : List Change). tables_after cs (tables_after D cleared)) (removal-cleared x (tables_after D cleared))
      ∙ tables_after-tables_after D (removal cleared x (tables_after D cleared)) cleared

  pub after_removal_alone-cleared : (x : ℕ) → tables_after (places_dropped rows t ++ removal t x cleared) t ≡ tables_after (removal cleared x cleared) cleared
  after_removal_alone-cleared x = after-cleared (removal t x cleared) ∙ ap (λ (cs : List Change). tables_after cs cleared) (removal-cleared x cleared)

  -- a step of the tables that they leave is one of the tables before, where each inode that has a row then keeps its forms
  pub IsStep-cleared : (after : Tables) (next : Tree) (drawn : ℕ)
      → ((inode blockno : ℕ) → IsTrue (is_some (inode_at after inode)) → form_at cleared inode blockno ≡ form_at t inode blockno)
      → IsStep cleared after next drawn → IsStep t after next drawn
  IsStep-cleared after next drawn forms step =
      let inode : next_inode_of cleared ≡ next_inode_of t = ap (λ (found : Option Parameters). unwrap_or (option_map (λ q. q.next_inode) found) 0) (params-places_dropped rows t) in
      let id : next_name_of cleared ≡ next_name_of t = ap (λ (found : Option Parameters). unwrap_or (option_map (λ q. q.next_name) found) 0) (params-places_dropped rows t) in
      let contents : length cleared.contents ≡ length t.contents = ap length names-cleared.contents in
      let attrs : length cleared.attrs ≡ length t.attrs = ap length names-cleared.attrs in
      record {
        valid = step.valid;
        represents = step.represents;
        unique = λ unique. step.unique (HasUniqueNames-KeepsNames t cleared names-cleared unique);
        rest = record {
          params = step.rest.params ∙ ap (option_map settings) (params-places_dropped rows t);
          next_inode = omega (arith, inode, step.rest.next_inode);
          next_name = omega (arith, id, step.rest.next_name);
          forms = λ x blockno living. step.rest.forms x blockno living ∙ forms x blockno living;
          blocks = AreRowsOf-trans t cleared after (AreRowsOf-places_dropped rows t) step.rest.blocks;
          slots = step.rest.slots ∙ names-cleared.slots;
        };
        small = record { names = omega (arith, id, step.small.names); uses = omega (arith, contents, attrs, step.small.uses) };
      }

-- the inode that changes end with has no row then
pub inode_at-removal : (told : Tables) (x : ℕ) (D : List Change) (w : Tables) → inode_at (tables_after (D ++ removal told x (tables_after D w)) w) x ≡ None
inode_at-removal told x D w =
    let first : List Change = attrs_dropped (attrs_of told x) (tables_after D w) ++ target_dropped (target_at told x) x in
    ap (λ (u : Tables). inode_at u x)
    (sym (tables_after-tables_after D (removal told x (tables_after D w)) w) ∙ sym (tables_after-tables_after first (changes.DeleteInode x ∷ []) (tables_after D w)))
    ∙ row_at-without_same by_inode nat_cmp_total x (tables_after first (tables_after D w)).inodes

module _ (t : Tables) (v : IsValid t) (inode : ℕ) where
  abbrev places : List InodeBlock
  places = places_from t inode 0

  pub no_places : IsTrue (list_all (λ (x : InodeBlock). not (x.inode == inode)) (cleared t places).inode_blocks)
  no_places =
      list_all_weaker (λ (x : InodeBlock). not (x.inode == inode && nat_le 0 x.blockno)) (λ (x : InodeBlock). not (x.inode == inode)) (λ x is. own (x.inode == inode) (nat_le 0 x.blockno) (grind (arith, nat_tests)) is)
      (cleared t places).inode_blocks (inode_blocks-places_from t inode 0)
    where
      own : (b c : Bool) → c ≡ true → IsTrue (not (b && c)) → IsTrue (not b)
      own true true reached is = is
      own true false reached is = absurd (cc reached)
      own false c reached is = refl

  -- what is a step of an inode that goes, once its places are gone, is one with its places
  pub IsStep-gone : (after : Tables) (next : Tree) (drawn : ℕ) → inode_at after inode ≡ None → IsStep (cleared t places) after next drawn → IsStep t after next drawn
  IsStep-gone after next drawn gone step = IsStep-cleared t places after next drawn forms step
    where
      forms : (x blockno : ℕ) → IsTrue (is_some (inode_at after x)) → form_at (cleared t places) x blockno ≡ form_at t x blockno
      forms x blockno living = form_at-places_from t v.params inode 0 x blockno (OwesPlaces-IsValid t v.params v v.is_made) (other (x == inode) refl)
        where
          other : (b : Bool) → (x == inode) ≡ b → (b && nat_le 0 blockno) ≡ false
          other true same =
              let clash : false ≡ true = sym (ap is_some gone) ∙ ap (λ y. is_some (inode_at after y)) (sym (eqb-true x inode same)) ∙ living in
              absurd (cc clash)
          other false same = refl

-- the places of a file that goes leave all names
pub name_at-places_of_gone : (t : Tables) (kept : Bool) (inode id : ℕ) → name_at (tables_after (places_of_gone kept t inode) t) id ≡ name_at t id
name_at-places_of_gone t true inode id = refl
name_at-places_of_gone t false inode id = name_at-cleared t (places_from t inode 0) id
