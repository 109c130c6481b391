-- The plan of a CopyTree is right.
use Rattle.std.proofs.Common.{◌≡◌, ◌≤◌, ◌<◌, ℕ, ◌+◌, ◌^◌, suc, zero, List, [], ◌∷◌, ◌++◌, length, Bool, true, false, cond, Option, None, Some, refl, sym, ap, ◌∙◌, subst, arith, length-append, ne_eqb}
use Rattle.std.proofs.lemmas.Bool.{both_ways}
use Rattle.std.proofs.lemmas.Bool.Decides.{nat_tests}
use Rattle.std.specs.Prelude.{◌&&◌, ◌==◌, nat_le, nat_lt}
use Rattle.s3_base.specs.declared.errors.Errno.{Errno}
use Rattle.op_frames.specs.declared.operation.Op.TheVariants as ops
use Rattle.op_frames.specs.declared.reply.Reply.TheVariants as replies
use Rattle.plain_tree.specs.Below.{at_and_below, is_among, is_at_or_below}
use Rattle.plain_tree.specs.Checks.{fails_with, first_failure, ids_check}
use Rattle.plain_tree.specs.Operations.{checks, effect, success}
use Rattle.plain_tree.specs.Subtrees.{copy_number}
use Rattle.plain_tree.specs.Tree.{Tree}
use Rattle.s3_rows.specs.declared.change.Change.{Change}
use Rattle.s3_rows.specs.declared.change.Change.TheVariants as changes
use Rattle.s3_rows.specs.Batches.{tables_after}
use Rattle.s3_rows.specs.Rows.{Block, Inode, InodeBlock, Parameters}
use Rattle.s3_rows.specs.Selections.{block_at, inode_at}
use Rattle.s3_rows.specs.Tables.{Tables, by_inode}
use Rattle.s3_rows.specs.Keyed.{row_at}
use Rattle.row_lemmas.proofs.Tables.{tables_after-tables_after}
use Rattle.tree_laws.proofs.Copy.Nodes.{place_within}
use Rattle.tree_rows.specs.Attrs.{attr_of_row}
use Rattle.tree_rows.proofs.Attributed.{attr_is}
use Rattle.op_checks.specs.Rows.{ids_row_check}
use Rattle.op_checks.proofs.Nodes.{ids_check-row}
use Rattle.ref_counts.specs.Links.{places_from}
use Rattle.ref_counts.specs.Plans.{next_name_of}
use Rattle.ref_counts.specs.declared.plan.Plan.TheVariants as plans
use Rattle.row_steps.specs.RowChanges.{touched_row}
use Rattle.tree_copy.specs.declared.progress.Copied.{Copied}
use Rattle.tree_copy.specs.CopiedFiles.{fit_from, placed_from}
use Rattle.tree_copy.specs.CopiedPlaces.{file_copied, files_copied, files_fit, place_changes, place_copied}
use Rattle.tree_copy.specs.CopiedRows.{AreVisitsOf, Visit, copied_row, entry_copied, names_copied, names_fit, node_copied, source_copied, visits_copied}
use Rattle.tree_copy.specs.CopyPlans.{IsCopyPlan, IsCopyWorn, IsCopyable, copy_checks}
use Rattle.tree_copy.specs.CopySteps.{AreNamesOf, IsCopyStep, inodes_seen, tree_copied, tree_fits}
use Rattle.tree_copy.specs.CopyWalks.{AreWalked, IsCopiedWhole, Walk, turned, walk_after}
use Rattle.tree_copy.proofs.CopiedNames.{AreNamesOf-names, takes_copy}
use Rattle.tree_copy.proofs.CopiedPlaces.{files_alike}
use Rattle.tree_copy.proofs.CopiedTrees.{IsCopyStep-copied, differ-all_seen}
use Rattle.tree_copy.proofs.CopyMade.{next_number, top_id}
use Rattle.tree_copy.proofs.FilesInTurn.{files_in_turn}
use Rattle.tree_copy.proofs.LinkBounds.{counted_so_far}
use Rattle.tree_copy.proofs.NamesDrawn.{copy_draws}

-- ---- the walk is one

more_turns : (told : Tables) (next top : ℕ) (visits : List Visit) (n : ℕ) → walk_after n told next top ≡ record { visits = visits; levels = [] } → (m : ℕ)
    → (k : ℕ) × (k ≡ m + n) × (walk_after k told next top ≡ record { visits = visits; levels = [] })
more_turns told next top visits n is zero = (n, omega arith, is)
more_turns told next top visits n is (suc m) =
    let before = more_turns told next top visits n is m in
    (suc before.0, omega (arith, before.1), ap (λ (w : Walk). turned told next top w.visits w.levels) before.2)

pub AreWalked-one : (told : Tables) (next top : ℕ) (a b : List Visit) → AreWalked told next top a → AreWalked told next top b → a ≡ b
AreWalked-one told next top a b first second =
    let one = more_turns told next top a first.turns first.is second.turns in
    let two = more_turns told next top b second.turns second.is first.turns in
    let same : one.0 ≡ two.0 = omega (arith, one.1, two.1) in
    ap (λ (w : Walk). w.visits) (sym one.2 ∙ ap (λ n. walk_after n told next top) same ∙ two.2)

-- ---- checks, one behind the others

pub behind : (xs ys : List (Option ℕ)) → first_failure xs ≡ None → first_failure (xs ++ ys) ≡ first_failure ys
behind [] ys is = refl
behind (None ∷ xs) ys is = behind xs ys is
behind (Some errno ∷ xs) ys is = absurd (cc is)

-- ---- places leave inodes alone

place_inodes : (id : ℕ) (r : InodeBlock) (b : Option Block) (t : Tables) → (tables_after (place_changes id r b) t).inodes ≡ t.inodes
place_inodes id r None t = refl
place_inodes id r (Some b) t = refl

file_inodes : (id : ℕ) (rows : List InodeBlock) (t : Tables) → (tables_after (file_copied id rows t) t).inodes ≡ t.inodes
file_inodes id [] t = refl
file_inodes id (r ∷ rows) t =
    let one : List Change = place_copied id r t in
    ap (λ (u : Tables). u.inodes) (sym (tables_after-tables_after one (file_copied id rows (tables_after one t)) t)) ∙ file_inodes id rows (tables_after one t)
    ∙ place_inodes id r (block_at t r.block) t

files_inodes : (told : Tables) (next : ℕ) (seen xs : List ℕ) (t : Tables) → (tables_after (files_copied told next seen xs t) t).inodes ≡ t.inodes
files_inodes told next seen [] t = refl
files_inodes told next seen (x ∷ xs) t =
    let one : List Change = file_copied (copy_number next seen x) (places_from told x 0) t in
    ap (λ (u : Tables). u.inodes) (sym (tables_after-tables_after one (files_copied told next seen xs (tables_after one t)) t)) ∙ files_inodes told next seen xs (tables_after one t)
    ∙ file_inodes (copy_number next seen x) (places_from told x 0) t

-- ---- of a tree

module _ (told : Tables) (whole : Tree) (source parent now : ℕ) (name : List ℕ) (top directory : Inode) (p : Parameters)
    (k : IsCopyable told whole source parent name top directory p) (pass : ℕ) (c : Copied) (copy : IsCopiedWhole told whole now top directory name c) where
  abbrev visits : List Visit
  visits = copy.visits

  top_is : source ≡ top.id
  top_is = top_id told whole source parent now name top directory p k

  are : AreVisitsOf told (at_and_below whole source) top.id copy.visits
  are = subst (λ x. AreVisitsOf told (at_and_below whole x) top.id copy.visits) (sym top_is) copy.are

  seen_is : c.seen.items ≡ at_and_below whole source
  seen_is = copy.made.seen ∙ are.order_is

  -- the source is seen
  pub some_seen : 0 < length c.seen.items
  some_seen =
      let counted =
      counted_so_far told whole source parent now name top directory p k copy.visits are.each
      (λ x among. ap (λ y. is_at_or_below whole y x) (sym top_is) ∙ ap (λ (xs : List ℕ). is_among xs x) (sym are.order_is) ∙ among) in
      let within = place_within (inodes_seen top copy.visits) top.id counted.source in
      subst (λ (xs : List ℕ). 0 < length xs) (sym copy.made.seen) (omega (arith, within))

  -- what is refused is refused for want of numbers
  refused : first_failure (checks whole pass (ops.CopyTree source parent name)) ≡ first_failure (ids_row_check p (length c.seen.items) ∷ [])
  refused =
      behind (copy_checks whole source parent name) (ids_check whole (length (at_and_below whole source)) ∷ []) k.passes
      ∙ ap (λ x. first_failure (x ∷ []))
      (ids_check-row told whole p (length (at_and_below whole source)) k.same k.made ∙ ap (λ (xs : List ℕ). ids_row_check p (length xs)) (sym seen_is))

  pub copy_refused : (errno : Errno) → ids_row_check p (length c.seen.items) ≡ Some errno.0 → first_failure (checks whole pass (ops.CopyTree source parent name)) ≡ Some errno.0
  copy_refused errno is = refused ∙ ap (λ x. first_failure (x ∷ [])) is

  module _ (room : p.next_inode + length c.seen.items ≤ 2 ^ 62) where
    pub passes : first_failure (checks whole pass (ops.CopyTree source parent name)) ≡ None
    passes = refused ∙ ap (λ x. first_failure (x ∷ [])) none
      where
        few : nat_lt (2 ^ 62) (p.next_inode + length c.seen.items) ≡ false
        few = grind (arith, nat_tests, room)

        none : ids_row_check p (length c.seen.items) ≡ None
        none = ap (λ b. fails_with 28 b) few

    roomy : nat_le (whole.next_inode + length (inodes_seen top copy.visits)) (2 ^ 62) ≡ true
    roomy = ap (λ n. nat_le n (2 ^ 62)) number ∙ fits
      where
        number : whole.next_inode + length (inodes_seen top copy.visits) ≡ p.next_inode + length c.seen.items
        number = λ i. sym (next_number told whole source parent name top directory p k) i + length (sym copy.made.seen i)

        fits : nat_le (p.next_inode + length c.seen.items) (2 ^ 62) ≡ true
        fits = grind (arith, nat_tests, room)

    worn : tree_fits told whole.next_inode now top directory name copy.visits ≡ false → IsCopyPlan told whole pass source parent name now plans.Worn
    worn is = (
      passes,
      record {
        top = top;
        directory = directory;
        visits = copy.visits;
        source_found = k.source_found;
        parent_found = k.parent_found;
        walked = copy.walked;
        worn = is;
      },
    )

    abbrev names : List Change
    names = names_copied told whole.next_inode now top directory name copy.visits

    abbrev files : Bool
    files = files_fit told whole.next_inode (inodes_seen top copy.visits) (inodes_seen top copy.visits) told

    names_test : c.names ≡ cond (names_fit told whole.next_inode now top directory name copy.visits) (Some (names_copied told whole.next_inode now top directory name copy.visits)) None
    names_test =
        copy.made.names
        ∙ ap (λ b. cond b (Some (names_copied told whole.next_inode now top directory name copy.visits)) None)
        (ap (λ b. names_fit told whole.next_inode now top directory name copy.visits && b) roomy ∙ and_true (names_fit told whole.next_inode now top directory name copy.visits))
      where
        and_true : (b : Bool) → (b && true) ≡ b
        and_true true = refl
        and_true false = refl

    -- some name is worn
    pub names_worn : c.names ≡ None → IsCopyPlan told whole pass source parent name now plans.Worn
    names_worn none =
        worn (ap (λ b. b && files) (by_case (names_fit told whole.next_inode now top directory name copy.visits) refl))
      where
        by_case : (b : Bool) → names_fit told whole.next_inode now top directory name copy.visits ≡ b → b ≡ false
        by_case false is = refl
        by_case true is =
            let clash : None ≡ Some (names_copied told whole.next_inode now top directory name copy.visits) =
            sym none ∙ names_test ∙ ap (λ b. cond b (Some (names_copied told whole.next_inode now top directory name copy.visits)) None) is in
            cc clash

    module _ (batch : List Change) (there : c.names ≡ Some batch) where
      both : (names_fit told whole.next_inode now top directory name copy.visits ≡ true) × (names_copied told whole.next_inode now top directory name copy.visits ≡ batch)
      both = by_case (names_fit told whole.next_inode now top directory name copy.visits) refl
        where
          by_case : (b : Bool) → names_fit told whole.next_inode now top directory name copy.visits ≡ b
              → (b ≡ true) × (names_copied told whole.next_inode now top directory name copy.visits ≡ batch)
          by_case true is =
              let one : Some (names_copied told whole.next_inode now top directory name copy.visits) ≡ Some batch =
              sym (ap (λ b. cond b (Some (names_copied told whole.next_inode now top directory name copy.visits)) None) is) ∙ sym names_test ∙ there in
              (refl, cc one)
          by_case false is =
              let clash : None ≡ Some batch =
              sym (ap (λ b. cond b (Some (names_copied told whole.next_inode now top directory name copy.visits)) None) is) ∙ sym names_test ∙ there in
              absurd (cc clash)

      abbrev u : Tables
      u = tables_after batch told

      named : AreNamesOf told (tables_after batch told) (effect whole pass (ops.CopyTree source parent name) now)
      named =
          subst (λ (b : List Change). AreNamesOf told (tables_after b told) (effect whole pass (ops.CopyTree source parent name) now)) both.1
          (AreNamesOf-names told whole k.valid k.unique k.same k.well source parent now name (takes_copy whole pass source parent name passes) directory top k.parent_found k.source_found
          copy.visits are both.0 pass passes)

      -- the places in turn are those of the copy
      turns : (placed_from told p.next_inode c.seen.items u ≡ files_copied told whole.next_inode (inodes_seen top copy.visits) (inodes_seen top copy.visits) told)
          × (fit_from told p.next_inode c.seen.items u ≡ files_fit told whole.next_inode (inodes_seen top copy.visits) (inodes_seen top copy.visits) told)
      turns =
          let number = next_number told whole source parent name top directory p k in
          let seen : List ℕ = inodes_seen top copy.visits in
          let turn = files_in_turn told whole.next_inode seen u (differ-all_seen copy.visits (top.id ∷ []) refl) in
          let alike = files_alike told whole.next_inode seen seen told u named.blocks in (
            (λ i. placed_from told (number i) (copy.made.seen i) u) ∙ turn.0 ∙ alike.0,
            (λ i. fit_from told (number i) (copy.made.seen i) u) ∙ turn.1 ∙ alike.1,
          )

      -- some block is worn
      pub files_worn : false ≡ fit_from told p.next_inode c.seen.items (tables_after batch told) → IsCopyPlan told whole pass source parent name now plans.Worn
      files_worn is = worn ((λ i. both.0 i && files) ∙ sym (is ∙ turns.1))

      -- none is
      module _ (after : List Change) (fits : true ≡ fit_from told p.next_inode c.seen.items (tables_after batch told))
          (added : after ≡ batch ++ placed_from told p.next_inode c.seen.items (tables_after batch told)) where
        all : tree_fits told whole.next_inode now top directory name copy.visits ≡ true
        all = (λ i. both.0 i && files) ∙ sym (fits ∙ turns.1)

        after_is : tree_copied told whole.next_inode now top directory name copy.visits ≡ after
        after_is =
            ap (λ (b : List Change). b ++ files_copied told whole.next_inode (inodes_seen top copy.visits) (inodes_seen top copy.visits) told) both.1
            ∙ ap (λ (b : List Change). batch ++ b) (sym turns.0) ∙ sym added

        step : IsCopyStep told (tables_after after told) whole source (effect whole pass (ops.CopyTree source parent name) now)
        step =
            subst (λ (b : List Change). IsCopyStep told (tables_after b told) whole source (effect whole pass (ops.CopyTree source parent name) now)) after_is
            (IsCopyStep-copied told whole k.valid k.unique k.same k.well pass source parent now name passes directory top k.parent_found k.source_found copy.visits are both.0
            (sym (fits ∙ turns.1)))

        abbrev row : Inode
        row = copied_row whole.next_inode now top

        row_there : inode_at (tables_after after told) whole.next_inode ≡ Some (copied_row whole.next_inode now top)
        row_there =
            let seen : List ℕ = inodes_seen top copy.visits in
            let fs : List Change = files_copied told whole.next_inode seen seen told in
            let here : (tables_after after told).inodes ≡ (tables_after batch told).inodes =
            ap (λ (b : List Change). (tables_after b told).inodes) (added ∙ ap (λ (b : List Change). batch ++ b) (turns.0 ∙ sym (files_alike told whole.next_inode seen seen told u named.blocks).0))
            ∙ sym (ap (λ (t : Tables). t.inodes) (tables_after-tables_after batch (files_copied told whole.next_inode seen seen u) told)) ∙ files_inodes told whole.next_inode seen seen u in
            ap (row_at by_inode whole.next_inode) here ∙ ap (λ (b : List Change). inode_at (tables_after b told) whole.next_inode) (sym both.1)
            ∙ (counted_so_far told whole source parent now name top directory p k copy.visits are.each
            (λ x among. ap (λ y. is_at_or_below whole y x) (sym top_is) ∙ ap (λ (xs : List ℕ). is_among xs x) (sym are.order_is) ∙ among)).source_row

        reply_is : replies.Attr (attr_of_row (copied_row p.next_inode now top)) ≡ success whole pass (ops.CopyTree source parent name) now
        reply_is =
            ap (λ n. replies.Attr (attr_of_row (copied_row n now top))) (next_number told whole source parent name top directory p k)
            ∙ sym (attr_is (tables_after after told) (effect whole pass (ops.CopyTree source parent name) now) whole.next_inode (copied_row whole.next_inode now top) step.valid step.represents row_there (omega arith))

        some : (length after == 0) ≡ false
        some = ne_eqb (length after) 0 (λ none. absurd (omega (arith, none, ap length after_is, length-append (names_copied told whole.next_inode now top directory name copy.visits) fs, length-append (source_copied told whole.next_inode now top directory name) vs, length-append (node ++ entry) touch)))
          where
            fs : List Change
            fs = files_copied told whole.next_inode (inodes_seen top copy.visits) (inodes_seen top copy.visits) told

            vs : List Change
            vs = visits_copied told whole.next_inode now (top.id ∷ []) copy.visits (tables_after (source_copied told whole.next_inode now top directory name) told)

            node : List Change
            node = node_copied told whole.next_inode now top told

            entry : List Change
            entry = entry_copied directory.id name whole.next_inode (tables_after (node_copied told whole.next_inode now top told) told)

            touch : List Change
            touch = changes.PutInode (touched_row now directory) ∷ []

        drawn : next_name_of (tables_after after told) ≤ next_name_of told + 1
        drawn =
            subst (λ (b : List Change). next_name_of (tables_after b told) ≤ next_name_of told + 1) after_is
            (copy_draws told whole.next_inode now top directory name copy.visits k.valid are.each)

        not_worn : IsCopyWorn told whole source parent now name → ⊥
        not_worn w =
            let tops : Some w.top ≡ Some top = sym w.source_found ∙ k.source_found in
            let one : w.top ≡ top = cc tops in
            let directories : Some w.directory ≡ Some directory = sym w.parent_found ∙ k.parent_found in
            let two : w.directory ≡ directory = cc directories in
            let visits_are : w.visits ≡ copy.visits =
            AreWalked-one told whole.next_inode top.id w.visits copy.visits (subst (λ (r : Inode). AreWalked told whole.next_inode r.id w.visits) one w.walked) copy.walked in
            both_ways (tree_fits told whole.next_inode now top directory name copy.visits)
            (sym (λ i. tree_fits told whole.next_inode now (one i) (two i) name (visits_are i)) ∙ w.worn) all

        pub copy_planned : IsCopyPlan told whole pass source parent name now (plans.Commit after (replies.Attr (attr_of_row (copied_row p.next_inode now top))) [])
        copy_planned = (passes, reply_is, step, drawn, some, refl, not_worn)
