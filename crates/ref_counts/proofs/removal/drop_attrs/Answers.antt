use Rattle.std.proofs.Common.{◌++◌, inl, inr, refl, ap, ◌∙◌, arith}
use Rattle.s3_rows.specs.Batches.{tables_after}
use Rattle.ref_counts.specs.Removals.{attrs_dropped}
use Rattle.ref_counts.proofs.AttrKeys.{ForSome_there, IsOtherOrNone-none, IsOtherOrNone-some, all_dropped, attrs_past_all, nearer, one_dropped}
use Rattle.ref_counts.proofs.Told.{IfTold-all, IfTold-weaker2, IfTold-weaker3, IfTold-same}
use Rattle.ref_counts.proofs.removal.drop_attrs.Goals as goal

pub attrs-init : goal.attrs-init
attrs-init g c = record {
  told = refl;
  later = omega arith;
  before = inr (omega (arith, c.requires), omega arith);
  partly =
      IfTold-all (g.K.Keeper.told c.args.keeper.now) _
      (λ t o. ap (λ attrs. c.args.batch.now ++ attrs_dropped attrs (tables_after c.args.batch.now t)) (attrs_past_all t c.args.inode 18446744073709551615 c.requires));
}

pub returns-in_default-clause-dropped : goal.returns-in_default-clause-dropped
returns-in_default-clause-dropped g c =
    IfTold-weaker2 (g.K.Keeper.told c.args.keeper.now) _ _ _
    (λ t next partly o.
    all_dropped t c.attrs.batch c.args.batch.now c.args.inode c.attrs.last.0 c.attrs.last.1 _ o c.attrs.invariant.before next
    (IsOtherOrNone-none c.args.inode _ c.in_default.not-Some) (partly o))
    (IfTold-same (g.K.Keeper.told c.args.keeper.now) _ _ c.attrs.invariant.told c.in_ok-key.ensures.next) c.attrs.invariant.partly

pub returns-then-key-inode-clause-dropped : goal.returns-then-key-inode-clause-dropped
returns-then-key-inode-clause-dropped g c =
    IfTold-weaker2 (g.K.Keeper.told c.args.keeper.now) _ _ _
    (λ t next partly o.
    all_dropped t c.attrs.batch c.args.batch.now c.args.inode c.attrs.last.0 c.attrs.last.1 _ o c.attrs.invariant.before next
    (IsOtherOrNone-some c.args.inode _ c.in-Some.key c.in-Some.is c.if-key-inode.true c.in_ok-key.ensures.short) (partly o))
    (IfTold-same (g.K.Keeper.told c.args.keeper.now) _ _ c.attrs.invariant.told c.in_ok-key.ensures.next) c.attrs.invariant.partly

pub attrs-smaller : goal.attrs-smaller
attrs-smaller g c =
    nearer c.args.inode c.attrs.last c.in-Some.key c.attrs.invariant.before c.if-key-inode.false
    (ForSome_there _ _ c.in-Some.key c.in-Some.is c.in_ok-key.ensures.short) (ForSome_there _ _ c.in-Some.key c.in-Some.is c.in_ok-key.ensures.past)

pub attrs-preserved : goal.attrs-preserved
attrs-preserved g c =
    let same = c.in_ok-key.ensures.same ∙ c.attrs.invariant.told in
    record {
      told = c.in_ok-drop_attr.ensures.same ∙ same;
      later = omega (arith, c.in_ok-drop_attr.ensures.cause.later, c.in_ok-key.ensures.cause.later, c.attrs.invariant.later);
      before = inl c.if-key-inode.false;
      partly =
          IfTold-weaker3 (g.K.Keeper.told c.args.keeper.now) _ _ _ _
          (λ t next added partly o.
          one_dropped t c.attrs.batch c.drop_attr.new.batch c.args.inode c.attrs.last c.in-Some.key _ o next c.in-Some.is c.if-key-inode.false added ∙ partly o)
          (IfTold-same (g.K.Keeper.told c.args.keeper.now) _ _ c.attrs.invariant.told c.in_ok-key.ensures.next)
          (IfTold-same (g.K.Keeper.told c.args.keeper.now) _ _ same c.in_ok-drop_attr.ensures.dropped)
          c.attrs.invariant.partly;
    }
