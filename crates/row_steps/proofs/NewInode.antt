-- The row of a new inode, with the rows of targets that come with it: its link is owed, and its node is in the tree.
use Rattle.std.proofs.Common.{◌≡◌, ℕ, ◌+◌, List, [], ◌∷◌, length, false, None, Some, refl, ap, ◌∙◌, arith, lt-ltb}
use Rattle.std.specs.Prelude.{IsTrue, ◌==◌, nat_lt}
use Rattle.std.specs.Cmp.{nat_cmp_total}
use Rattle.s3_base.specs.Numbers.{root}
use Rattle.s3_base.specs.declared.node_kind.Kind.TheVariants as kinds
use Rattle.plain_tree.specs.Tree.{Node, Tree, with_node}
use Rattle.s3_rows.specs.Rows.{Inode, Target, Parameters}
use Rattle.s3_rows.specs.Keyed.{put}
use Rattle.s3_rows.specs.Tables.{Tables, by_inode, by_target}
use Rattle.s3_rows.specs.Selections.{inode_at, target_at}
use Rattle.s3_rows.specs.Counts.{listed_inode_count}
use Rattle.s3_rows.specs.Validity.{IsValid, is_directory}
use Rattle.row_lemmas.proofs.Keyed.Put.{row_at-put_same}
use Rattle.tree_rows.specs.Premises.{fits_kind, fits_size}
use Rattle.tree_rows.specs.Shapes.{shape_of_node, node_of_row, Represents}
use Rattle.row_steps.specs.Owed.{Owes}
use Rattle.row_steps.specs.RowChanges.{drawn, with_drawn}
use Rattle.row_steps.proofs.Owed.Attrs.{Owes-put_target}
use Rattle.row_steps.proofs.Owed.Draws.{Owes-params, apart_above, next_has_no_row, next_has_no_target, next_is_unlisted}
use Rattle.row_steps.proofs.Owed.Ends.{Owes-IsValid}
use Rattle.row_steps.proofs.Owed.Inodes.{Owes-put_inode_new, below_from_there}
use Rattle.row_steps.proofs.Shape.Absent.{Represents-put_target_absent}
use Rattle.row_steps.proofs.Shape.Rows.{added_represents}

-- a number is drawn, the row is put under it, and there are these targets
abbrev pub with_inode : Tables → Parameters → Inode → List Target → Tables
with_inode t p new targets = record t { params = Some (drawn p); inodes = put by_inode new t.inodes; targets = targets }

module _ (t : Tables) (p : Parameters) (v : IsValid t) (made : t.params ≡ Some p) where
  owes : Owes t p [] []
  owes = Owes-IsValid t p v made

  pub drawn_owes : Owes (with_drawn p t) (drawn p) [] []
  drawn_owes = Owes-params t p (p.next_inode + 1) p.next_name [] [] owes (omega arith) (omega arith)

  pub above_root : IsTrue (nat_lt root p.next_inode)
  above_root = below_from_there t p.next_inode owes.numbers root (λ kind size. is_directory kind) v.tree.is_rooted

  module _ (new : Inode) (id : new.id ≡ p.next_inode) where
    pub number_drawn : IsTrue (nat_lt new.id (p.next_inode + 1))
    number_drawn = lt-ltb new.id (p.next_inode + 1) (omega (arith, id))

    pub not_root : (new.id == root) ≡ false
    not_root = ap (λ n. n == root) id ∙ apart_above root p.next_inode above_root

    absent : inode_at t new.id ≡ None
    absent = ap (inode_at t) id ∙ next_has_no_row t p [] [] owes

    pub Owes-with_inode : new.refcount ≡ 1 → IsTrue (fits_kind t new) → Owes (with_inode t p new t.targets) (drawn p) (new.id ∷ []) []
    Owes-with_inode once fits =
        let unlisted : listed_inode_count t new.id ≡ 0 = ap (listed_inode_count t) id ∙ next_is_unlisted t p [] [] owes above_root in
        Owes-put_inode_new (with_drawn p t) (drawn p) new [] [] drawn_owes absent (omega (arith, unlisted)) once fits number_drawn

    pub Represents-with_inode : (whole : Tree) (node : Node) → Represents t whole → shape_of_node node ≡ node_of_row t new
        → Represents (with_inode t p new t.targets) (with_node node whole)
    Represents-with_inode whole node same shape = added_represents t whole p (drawn p) new node same made (refl, refl) id shape

    -- ---- with its target

    module _ (target : List ℕ) where
      abbrev pub with_target : List Target
      with_target = put by_target (record { inode = new.id; target = target }) t.targets

      pub Owes-with_link : new.refcount ≡ 1 → new.kind ≡ kinds.Link → new.size ≡ length target
          → Owes (with_inode t p new with_target) (drawn p) (new.id ∷ []) []
      Owes-with_link once kind size =
          let none : IsTrue (fits_kind t new) = (λ i. fits_size (kind i) ((ap (target_at t) id ∙ next_has_no_target t p [] [] owes) i) new.size) in
          Owes-put_target (with_inode t p new t.targets) (drawn p) (record { inode = new.id; target = target }) new (new.id ∷ []) []
          (Owes-with_inode once none) (row_at-put_same by_inode nat_cmp_total new t.inodes) kind size

      pub Represents-with_link : (whole : Tree) (node : Node) → Represents t whole → shape_of_node node ≡ node_of_row (record t { targets = with_target }) new
          → Represents (with_inode t p new with_target) (with_node node whole)
      Represents-with_link whole node same shape =
          added_represents (record t { targets = with_target }) whole p (drawn p) new node
          (Represents-put_target_absent t whole (record { inode = new.id; target = target }) absent same) made (refl, refl) id shape
