use Rattle.std.proofs.Common.{◌≡◌, inl, inr, ℕ, List, sym, ap, ◌∙◌, subst, ⊎_elim}
use Rattle.std.specs.Prelude.{IsTrue}
use Rattle.plain_tree.specs.Below.{at_and_below}
use Rattle.s3_rows.specs.Validity.{has_inode, is_directory}
use Rattle.tree_copy.specs.CopiedPlaces.{files_fit}
use Rattle.tree_copy.specs.CopiedRows.{AreVisitsOf, names_fit}
use Rattle.tree_copy.specs.CopySteps.{inodes_seen}
use Rattle.tree_copy.specs.NameCounts.{IsNameSpent}
use Rattle.tree_rows.proofs.Whole.{number_of}
use Rattle.tree_limits.proofs.WalkedAll.{comes_to_all}
use Rattle.tree_limits.proofs.WornCopies.{one_fails, source_folder, spent_is_full}
use Rattle.tree_limits.proofs.copies.worn_copies_are_full.Goals as goal

pub returns : goal.returns
returns c digest_of t whole pass source parent now name valid unique same well exact free few passes worn =
    let laws = c.copy_walks_come_to_all.ensures in
    let number : source ≡ worn.top.id = number_of t source worn.top worn.source_found in
    let folder : IsTrue (has_inode is_directory t worn.top.id) = ap (has_inode is_directory t) (sym number) ∙ source_folder t whole pass source parent name same passes in
    let are : AreVisitsOf t (at_and_below whole worn.top.id) worn.top.id worn.visits =
    laws.all t whole worn.top.id worn.visits valid same well folder
    (comes_to_all t whole worn.top.id (laws.first t whole worn.top.id valid same well folder)
    (λ visits l levels come none. laws.done t whole worn.top.id visits l levels valid same well folder come none)
    (λ visits l levels e r come next there again. laws.again t whole worn.top.id visits l levels e r valid same well folder come next there again)
    (λ copy visits l levels e r come next there new number_is. laws.new t whole worn.top.id copy visits l levels e r valid same well folder come next there new number_is)
    worn.visits worn.walked) in
    let order : inodes_seen worn.top worn.visits ≡ at_and_below whole source = are.order_is ∙ ap (at_and_below whole) (sym number) in
    ⊎_elim
    (λ names.
    let spent : IsNameSpent t worn.top.id name worn.visits =
    c.names_fit_by_their_counts.ensures.over t whole.next_inode now worn.top worn.directory name worn.visits valid unique are.each names in
    inl (spent_is_full t whole valid same (λ n there. c.names_count_their_uses.ensures.uses t whole n valid unique same there) few pass source parent now name passes
    worn.top worn.source_found worn.visits
    (subst (λ k. AreVisitsOf t (at_and_below whole k) k worn.visits) (sym number) are) (subst (λ k. IsNameSpent t k name worn.visits) (sym number) spent)))
    (λ files.
    inr
    (let full = c.places_fit_by_the_tree.ensures.over digest_of t whole pass source parent now whole.next_inode name (inodes_seen worn.top worn.visits) valid same exact free
    (ap (λ (xs : List ℕ). files_fit t whole.next_inode (inodes_seen worn.top worn.visits) xs t) (sym order) ∙ files) in
    (full.0, full.2, full.3)))
    (one_fails (names_fit t whole.next_inode now worn.top worn.directory name worn.visits)
    (files_fit t whole.next_inode (inodes_seen worn.top worn.visits) (inodes_seen worn.top worn.visits) t) worn.worn)
