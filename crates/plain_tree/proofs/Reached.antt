-- What holds of the handles after any calls.
use Rattle.std.proofs.Common.{◌<◌, ℕ, List, [], ◌∷◌}
use Rattle.std.proofs.lemmas.List.Elements.{All-nil}
use Rattle.op_frames.specs.Replay.{Request}
use Rattle.plain_tree.specs.Calls.{tree_after_all}
use Rattle.plain_tree.specs.Operations.{HandlesBelow, HandlesApart, tree_after}
use Rattle.plain_tree.specs.Tree.{Tree, made_tree}
use Rattle.plain_tree.proofs.Changes.{Change, change_after}
use Rattle.plain_tree.proofs.Handles.{below-change, apart-change, apart-none}

below_after_all : (t : Tree) (calls : List Request) → HandlesBelow t → HandlesBelow (tree_after_all t calls)
below_after_all t [] below = below
below_after_all t (call ∷ calls) below =
    below_after_all (tree_after t call.pass call.op call.now) calls (below-change t call.pass _ (change_after t call.pass call.now call.op) below)

apart_after_all : (t : Tree) (calls : List Request) → HandlesBelow t → HandlesApart t → HandlesApart (tree_after_all t calls)
apart_after_all t [] below apart = apart
apart_after_all t (call ∷ calls) below apart =
    let after : Tree = tree_after t call.pass call.op call.now in
    let change : Change t call.pass after = change_after t call.pass call.now call.op in
    apart_after_all after calls (below-change t call.pass after change below) (apart-change t call.pass after change below apart)

pub reached_below : (block_size time : ℕ) (calls : List Request) → HandlesBelow (tree_after_all (made_tree block_size time) calls)
reached_below block_size time calls = below_after_all _ calls (All-nil (λ k. k < 1))

pub reached_apart : (block_size time : ℕ) (calls : List Request) → HandlesApart (tree_after_all (made_tree block_size time) calls)
reached_apart block_size time calls = apart_after_all _ calls (All-nil (λ k. k < 1)) apart-none
