-- The shape of a tree with a copy of a subtree.
use Rattle.std.proofs.Common.{◌≡◌, ℕ, List, true, Option, None, Some, refl, sym, ap, ◌∙◌, inl, inr, arith}
use Rattle.std.specs.Option.{option_map}
use Rattle.s3_base.specs.declared.node_kind.Kind.TheVariants as kinds
use Rattle.plain_tree.specs.Attributes.{kind_of}
use Rattle.plain_tree.specs.Below.{is_among, at_and_below}
use Rattle.plain_tree.specs.Entries.{entry_at}
use Rattle.plain_tree.specs.Numbers.{InOrder}
use Rattle.plain_tree.specs.Subtrees.{copy_number, with_copy}
use Rattle.plain_tree.specs.Tree.{Node, Tree, node_at, entry_of}
use Rattle.tree_laws.proofs.Copy.Nodes.{place_of-one, first_place, number_of, with_copies, old_node, number_fits, new_node, from_node}
use Rattle.tree_laws.proofs.Node.Kind.{kind_in, entry_in, none_some, kind_some, entry_some, kind_copied, entry_copied}
use Rattle.tree_laws.proofs.Node.Reading.{node_at_none_next}
use Rattle.tree_laws.proofs.Shape.Branch.{Copies}
use Rattle.tree_laws.proofs.Shape.Tree.{shape_of, Links, shape-add_entry}
use Rattle.tree_laws.proofs.Shape.Words.{IsPlace, cases_place, one_entry, not_there}

mapped_some : (f : ℕ → ℕ) (found : Option ℕ) (z : ℕ) → option_map f found ≡ Some z → (y : ℕ) × (found ≡ Some y) × (z ≡ f y)
mapped_some f None z is = absurd (cc is)
mapped_some f (Some y) z is =
    let same : f y ≡ z = cc is in
    (y, refl, sym same)

-- a CopyTree adds a copy
pub shape-with_copy : (source p : ℕ) (n : List ℕ) (now : ℕ) (t : Tree) → InOrder t → kind_in (node_at t p) ≡ Some kinds.Directory → entry_at t p n ≡ None
    → is_among (at_and_below t source) source ≡ true
    → Copies (shape_of t) (shape_of (with_copy source p n now t)) p n source (is_among (at_and_below t source)) (copy_number t.next_inode (at_and_below t source))
shape-with_copy source p n now t ordered folder free itself =
    let order : List ℕ = at_and_below t source in
    let more : Tree = with_copies t order now in
    let parent = kind_some (node_at t p) kinds.Directory folder in
    let links : Links (shape_of more) (shape_of (with_copy source p n now t)) p n t.next_inode =
    shape-add_entry p n t.next_inode now more (ap kind_in (old_node t order now p parent.0 parent.1) ∙ ap Some parent.2) in
    let number : t.next_inode ≡ number_of t order source = omega (arith, first_place t source) in
    let fresh : (y : ℕ) → kind_in (node_at t (number_of t order y)) ≡ None = λ y. ap kind_in (node_at_none_next t ordered (number_of t order y) (number_fits t order y)) in
    record {
      old_kind = λ y k is.
          let old = kind_some (node_at t y) k is in
          links.kind y ∙ ap kind_in (old_node t order now y old.0 old.1) ∙ ap Some old.2;
      new_kind = λ y k among is.
          let old = kind_some (node_at t y) k is in
          links.kind (number_of t order y) ∙ ap kind_in (new_node t ordered order now y old.0 among old.1) ∙ ap Some (kind_copied t.next_inode order old.0.content ∙ old.2);
      from_kind = λ z k is.
          let new = kind_some (node_at more z) k (sym (links.kind z) ∙ is) in
          elim (from_node t order now z new.0 new.1) [
            | inl old ↦ inl (ap kind_in old ∙ ap Some new.2)
            | inr from ↦
                inr (record {
                  of = from.of;
                  within = from.among;
                  is = from.number;
                  kind = ap kind_in from.there
                      ∙ ap Some (sym (kind_copied t.next_inode order from.original.content) ∙ ap (λ (o : Node). kind_of o.content) (sym from.is) ∙ new.2);
                })
          ];
      fresh = λ y among. fresh y;
      apart = λ y z among also same. place_of-one order y z among (omega (arith, same));
      here = links.here ∙ ap Some number;
      old_entry = λ q y m is.
          let old = entry_some m y (node_at t q) is in
          links.rest q m (λ same. not_there (entry_at t) p n q m y same free is) ∙ ap (entry_in m) (old_node t order now q old.0 old.1) ∙ old.2;
      new_entry = λ q y m among is.
          let old = entry_some m y (node_at t q) is in
          let differs : IsPlace p n (number_of t order q) m → ⊥ = λ same. none_some _ kinds.Directory (fresh q) (ap (λ k. kind_in (node_at t k)) same.0 ∙ folder) in
          links.rest (number_of t order q) m differs ∙ ap (entry_in m) (new_node t ordered order now q old.0 among old.1) ∙ entry_copied t.next_inode order old.0.content m
          ∙ ap (option_map (copy_number t.next_inode order)) old.2;
      from_entry = λ q z m is.
          elim (cases_place p n q m) [
            | inl place ↦ inl (place, one_entry (shape_of (with_copy source p n now t)).entry p n q m t.next_inode z place links.here is ∙ number)
            | inr differs ↦
                let new = entry_some m z (node_at more q) (sym (links.rest q m differs) ∙ is) in
                elim (from_node t order now q new.0 new.1) [
                  | inl old ↦ inr (inl (ap (entry_in m) old ∙ new.2))
                  | inr from ↦
                      let old = mapped_some (copy_number t.next_inode order) (entry_of from.original.content m) z
                      (sym (entry_copied t.next_inode order from.original.content m) ∙ ap (λ (o : Node). entry_of o.content m) (sym from.is) ∙ new.2) in
                      inr (inr (record {
                        parent = from.of;
                        named = old.0;
                        within = from.among;
                        parent_is = from.number;
                        is = old.2;
                        names = ap (entry_in m) from.there ∙ old.1;
                      }))
                ]
          ];
      opened = λ y. links.opened y;
    }
