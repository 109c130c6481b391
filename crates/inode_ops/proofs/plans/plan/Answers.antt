use Rattle.std.proofs.Common.{sym, subst}
use Rattle.op_frames.specs.declared.operation.Op.{Op}
use Rattle.ref_counts.specs.Plans.{IsPlanOf}
use Rattle.ref_counts.proofs.Named.{if_ok}
use Rattle.ref_counts.proofs.Told.{IfTold-weaker}
use Rattle.inode_ops.proofs.plans.plan.Goals as goal

pub returns-in_ok-found-in-Getattr-clause-plan : goal.returns-in_ok-found-in-Getattr-clause-plan
returns-in_ok-found-in-Getattr-clause-plan g c =
    IfTold-weaker (g.K.Keeper.told c.args.keeper.now) _ _
    (λ t is v unique slots whole same well has. subst (λ (op : Op). IsPlanOf t whole c.args.pass op c.args.now c.getattr_of.result) (sym c.in-Getattr.is) (c.getattr_of.ensures.plan t whole c.args.pass c.in-Getattr.inode c.args.now v same is))
    c.in_ok-found-in-Getattr.ensures.row

pub returns-in_ok-chmod_of-in-Chmod-clause-plan : goal.returns-in_ok-chmod_of-in-Chmod-clause-plan
returns-in_ok-chmod_of-in-Chmod-clause-plan g c =
    IfTold-weaker (g.K.Keeper.told c.args.keeper.now) _ _
    (λ t is v unique slots whole same well has. subst (λ (op : Op). IsPlanOf t whole c.args.pass op c.args.now c.in_ok-chmod_of-in-Chmod.field-0) (sym c.in-Chmod.is) (c.in_ok-chmod_of-in-Chmod.ensures.plan t whole c.args.pass c.in-Chmod.inode v same is))
    c.in_ok-found-in-Chmod.ensures.row

pub returns-in_ok-chown_of-in-Chown-clause-plan : goal.returns-in_ok-chown_of-in-Chown-clause-plan
returns-in_ok-chown_of-in-Chown-clause-plan g c =
    IfTold-weaker (g.K.Keeper.told c.args.keeper.now) _ _
    (λ t is v unique slots whole same well has. subst (λ (op : Op). IsPlanOf t whole c.args.pass op c.args.now c.in_ok-chown_of-in-Chown.field-0) (sym c.in-Chown.is) (c.in_ok-chown_of-in-Chown.ensures.plan t whole c.args.pass c.in-Chown.inode v same is))
    c.in_ok-found-in-Chown.ensures.row

pub returns-in_ok-utimes_of-in-Utimes-clause-plan : goal.returns-in_ok-utimes_of-in-Utimes-clause-plan
returns-in_ok-utimes_of-in-Utimes-clause-plan g c =
    IfTold-weaker (g.K.Keeper.told c.args.keeper.now) _ _
    (λ t is v unique slots whole same well has. subst (λ (op : Op). IsPlanOf t whole c.args.pass op c.args.now c.in_ok-utimes_of-in-Utimes.field-0) (sym c.in-Utimes.is) (c.in_ok-utimes_of-in-Utimes.ensures.plan t whole c.args.pass c.in-Utimes.inode v same is))
    c.in_ok-found-in-Utimes.ensures.row

pub returns-in_ok-found-in-Open-clause-plan : goal.returns-in_ok-found-in-Open-clause-plan
returns-in_ok-found-in-Open-clause-plan g c =
    IfTold-weaker (g.K.Keeper.told c.args.keeper.now) _ _
    (λ t is v unique slots whole same well has. subst (λ (op : Op). IsPlanOf t whole c.args.pass op c.args.now c.open_of.result) (sym c.in-Open.is) (c.open_of.ensures.plan t whole c.args.pass c.in-Open.inode c.args.now v same has is))
    c.in_ok-found-in-Open.ensures.row

pub returns-in-Symlink-clause-plan : goal.returns-in-Symlink-clause-plan
returns-in-Symlink-clause-plan g c =
    if_ok _ _ (λ p own.
    IfTold-weaker (g.K.Keeper.told c.args.keeper.now) _ _
    (λ t planned v unique slots whole same well has. subst (λ (op : Op). IsPlanOf t whole c.args.pass op c.args.now p) (sym c.in-Symlink.is) (planned v unique whole c.args.pass same well))
    own)
    c.plan_symlink.result c.plan_symlink.ensures.plan

pub returns-in-Release-clause-plan : goal.returns-in-Release-clause-plan
returns-in-Release-clause-plan g c =
    if_ok _ _ (λ p own.
    IfTold-weaker (g.K.Keeper.told c.args.keeper.now) _ _
    (λ t planned v unique slots whole same well has. subst (λ (op : Op). IsPlanOf t whole c.args.pass op c.args.now p) (sym c.in-Release.is) (planned v unique slots whole c.args.now same well has))
    own)
    c.release.result c.release.ensures.plan

pub returns-in-Statfs-clause-plan : goal.returns-in-Statfs-clause-plan
returns-in-Statfs-clause-plan g c =
    if_ok _ _ (λ p own.
    IfTold-weaker (g.K.Keeper.told c.args.keeper.now) _ _
    (λ t planned v unique slots whole same well has. subst (λ (op : Op). IsPlanOf t whole c.args.pass op c.args.now p) (sym c.in-Statfs.is) (planned v whole c.args.pass c.args.now same))
    own)
    c.statfs.result c.statfs.ensures.plan

pub returns-in-Readlink-clause-plan : goal.returns-in-Readlink-clause-plan
returns-in-Readlink-clause-plan g c =
    if_ok _ _ (λ p own.
    IfTold-weaker (g.K.Keeper.told c.args.keeper.now) _ _
    (λ t planned v unique slots whole same well has. subst (λ (op : Op). IsPlanOf t whole c.args.pass op c.args.now p) (sym c.in-Readlink.is) (planned v whole c.args.pass c.args.now same))
    own)
    c.readlink.result c.readlink.ensures.plan

pub returns-in-Getxattr-clause-plan : goal.returns-in-Getxattr-clause-plan
returns-in-Getxattr-clause-plan g c =
    if_ok _ _ (λ p own.
    IfTold-weaker (g.K.Keeper.told c.args.keeper.now) _ _
    (λ t planned v unique slots whole same well has. subst (λ (op : Op). IsPlanOf t whole c.args.pass op c.args.now p) (sym c.in-Getxattr.is) (planned v unique whole c.args.pass c.args.now same))
    own)
    c.getxattr.result c.getxattr.ensures.plan

pub returns-in-Listxattr-clause-plan : goal.returns-in-Listxattr-clause-plan
returns-in-Listxattr-clause-plan g c =
    if_ok _ _ (λ p own.
    IfTold-weaker (g.K.Keeper.told c.args.keeper.now) _ _
    (λ t planned v unique slots whole same well has. subst (λ (op : Op). IsPlanOf t whole c.args.pass op c.args.now p) (sym c.in-Listxattr.is) (planned v whole c.args.pass c.args.now same))
    own)
    c.listxattr.result c.listxattr.ensures.plan

pub returns-in-Leave-clause-plan : goal.returns-in-Leave-clause-plan
returns-in-Leave-clause-plan g c =
    if_ok _ _ (λ p own.
    IfTold-weaker (g.K.Keeper.told c.args.keeper.now) _ _
    (λ t planned v unique slots whole same well has. subst (λ (op : Op). IsPlanOf t whole c.args.pass op c.args.now p) (sym c.in-Leave.is) (planned v unique slots whole c.args.now same well has))
    own)
    c.leave.result c.leave.ensures.plan

pub returns-in-Setxattr-clause-plan : goal.returns-in-Setxattr-clause-plan
returns-in-Setxattr-clause-plan g c =
    if_ok _ _ (λ p own.
    IfTold-weaker (g.K.Keeper.told c.args.keeper.now) _ _
    (λ t planned v unique slots whole same well has. subst (λ (op : Op). IsPlanOf t whole c.args.pass op c.args.now p) (sym c.in-Setxattr.is) (planned v unique whole c.args.pass same well))
    own)
    c.setxattr.result c.setxattr.ensures.plan

pub returns-in-Removexattr-clause-plan : goal.returns-in-Removexattr-clause-plan
returns-in-Removexattr-clause-plan g c =
    if_ok _ _ (λ p own.
    IfTold-weaker (g.K.Keeper.told c.args.keeper.now) _ _
    (λ t planned v unique slots whole same well has. subst (λ (op : Op). IsPlanOf t whole c.args.pass op c.args.now p) (sym c.in-Removexattr.is) (planned v unique whole c.args.pass same well))
    own)
    c.removexattr.result c.removexattr.ensures.plan
