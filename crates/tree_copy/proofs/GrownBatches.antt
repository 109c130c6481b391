-- The batch of a copy grows at its end: by what comes for one visit more, and by the places of one inode more.
use Rattle.std.proofs.Common.{◌≡◌, ℕ, List, [], ◌∷◌, ◌++◌, Bool, true, false, refl, sym, ap, ◌∙◌, append_assoc, eq-eqb}
use Rattle.std.proofs.lemmas.Bool.{or_left, or_right}
use Rattle.std.proofs.lemmas.List.{append-nil}
use Rattle.std.specs.Prelude.{◌&&◌, ◌==◌}
use Rattle.plain_tree.specs.Below.{is_among}
use Rattle.plain_tree.specs.Subtrees.{copy_number}
use Rattle.s3_rows.specs.declared.change.Change.{Change}
use Rattle.s3_rows.specs.Batches.{tables_after}
use Rattle.s3_rows.specs.Rows.{Inode}
use Rattle.s3_rows.specs.Tables.{Tables}
use Rattle.row_lemmas.proofs.Tables.{tables_after-tables_after}
use Rattle.ref_counts.specs.Links.{places_from}
use Rattle.tree_copy.specs.CopiedPlaces.{file_copied, file_fits, files_copied, files_fit}
use Rattle.tree_copy.specs.CopiedRows.{Visit, all_seen, names_copied, names_fit, seen_after, source_copied, source_fits, visit_copied, visit_fits, visits_copied, visits_fit}
use Rattle.tree_copy.specs.CopySteps.{inodes_seen}

and_true : (b : Bool) → (b && true) ≡ b
and_true true = refl
and_true false = refl

and_assoc : (a b c : Bool) → (a && (b && c)) ≡ ((a && b) && c)
and_assoc true b c = refl
and_assoc false b c = refl

-- ---- visits

visits_copied-last : (told : Tables) (next now : ℕ) (seen : List ℕ) (visits : List Visit) (v : Visit) (t : Tables)
    → visits_copied told next now seen (visits ++ v ∷ []) t
    ≡ visits_copied told next now seen visits t ++ visit_copied told next now (all_seen seen visits) v (tables_after (visits_copied told next now seen visits t) t)
visits_copied-last told next now seen [] v t = append-nil (visit_copied told next now seen v t)
visits_copied-last told next now seen (w ∷ visits) v t =
    let one : List Change = visit_copied told next now seen w t in
    let u : Tables = tables_after one t in
    let rest : List Change = visits_copied told next now (seen_after seen w) visits u in
    let last : Tables → List Change = λ x. visit_copied told next now (all_seen (seen_after seen w) visits) v x in
    ap (λ (cs : List Change). one ++ cs) (visits_copied-last told next now (seen_after seen w) visits v u) ∙ sym (append_assoc one rest (last (tables_after rest u)))
    ∙ ap (λ (x : Tables). (one ++ rest) ++ last x) (tables_after-tables_after one rest t)

visits_fit-last : (told : Tables) (next now : ℕ) (seen : List ℕ) (visits : List Visit) (v : Visit) (t : Tables)
    → visits_fit told next now seen (visits ++ v ∷ []) t
    ≡ (visits_fit told next now seen visits t && visit_fits told next now (all_seen seen visits) v (tables_after (visits_copied told next now seen visits t) t))
visits_fit-last told next now seen [] v t = and_true (visit_fits told next now seen v t)
visits_fit-last told next now seen (w ∷ visits) v t =
    let one : List Change = visit_copied told next now seen w t in
    let u : Tables = tables_after one t in
    let rest : List Change = visits_copied told next now (seen_after seen w) visits u in
    let here : Bool = visit_fits told next now seen w t in
    let others : Bool = visits_fit told next now (seen_after seen w) visits u in
    let last : Tables → Bool = λ x. visit_fits told next now (all_seen (seen_after seen w) visits) v x in
    ap (λ b. here && b) (visits_fit-last told next now (seen_after seen w) visits v u) ∙ and_assoc here others (last (tables_after rest u))
    ∙ ap (λ (x : Tables). (here && others) && last x) (tables_after-tables_after one rest t)

-- ---- names

pub names_copied-last : (told : Tables) (next now : ℕ) (source directory : Inode) (name : List ℕ) (visits : List Visit) (v : Visit)
    → names_copied told next now source directory name (visits ++ v ∷ [])
    ≡ names_copied told next now source directory name visits
    ++ visit_copied told next now (inodes_seen source visits) v (tables_after (names_copied told next now source directory name visits) told)
names_copied-last told next now source directory name visits v =
    let first : List Change = source_copied told next now source directory name in
    let u : Tables = tables_after first told in
    let rest : List Change = visits_copied told next now (source.id ∷ []) visits u in
    let last : Tables → List Change = λ x. visit_copied told next now (inodes_seen source visits) v x in
    ap (λ (cs : List Change). first ++ cs) (visits_copied-last told next now (source.id ∷ []) visits v u) ∙ sym (append_assoc first rest (last (tables_after rest u)))
    ∙ ap (λ (x : Tables). (first ++ rest) ++ last x) (tables_after-tables_after first rest told)

pub names_fit-last : (told : Tables) (next now : ℕ) (source directory : Inode) (name : List ℕ) (visits : List Visit) (v : Visit)
    → names_fit told next now source directory name (visits ++ v ∷ [])
    ≡ (names_fit told next now source directory name visits
    && visit_fits told next now (inodes_seen source visits) v (tables_after (names_copied told next now source directory name visits) told))
names_fit-last told next now source directory name visits v =
    let first : List Change = source_copied told next now source directory name in
    let u : Tables = tables_after first told in
    let rest : List Change = visits_copied told next now (source.id ∷ []) visits u in
    let here : Bool = source_fits told next now source name in
    let others : Bool = visits_fit told next now (source.id ∷ []) visits u in
    let last : Tables → Bool = λ x. visit_fits told next now (inodes_seen source visits) v x in
    ap (λ b. here && b) (visits_fit-last told next now (source.id ∷ []) visits v u) ∙ and_assoc here others (last (tables_after rest u))
    ∙ ap (λ (x : Tables). (here && others) && last x) (tables_after-tables_after first rest told)

-- ---- places

pub files_copied-last : (told : Tables) (next : ℕ) (seen xs : List ℕ) (x : ℕ) (t : Tables)
    → files_copied told next seen (xs ++ x ∷ []) t
    ≡ files_copied told next seen xs t ++ file_copied (copy_number next seen x) (places_from told x 0) (tables_after (files_copied told next seen xs t) t)
files_copied-last told next seen [] x t = append-nil (file_copied (copy_number next seen x) (places_from told x 0) t)
files_copied-last told next seen (y ∷ xs) x t =
    let one : List Change = file_copied (copy_number next seen y) (places_from told y 0) t in
    let u : Tables = tables_after one t in
    let rest : List Change = files_copied told next seen xs u in
    let last : Tables → List Change = λ z. file_copied (copy_number next seen x) (places_from told x 0) z in
    ap (λ (cs : List Change). one ++ cs) (files_copied-last told next seen xs x u) ∙ sym (append_assoc one rest (last (tables_after rest u)))
    ∙ ap (λ (z : Tables). (one ++ rest) ++ last z) (tables_after-tables_after one rest t)

pub files_fit-last : (told : Tables) (next : ℕ) (seen xs : List ℕ) (x : ℕ) (t : Tables)
    → files_fit told next seen (xs ++ x ∷ []) t
    ≡ (files_fit told next seen xs t && file_fits (copy_number next seen x) (places_from told x 0) (tables_after (files_copied told next seen xs t) t))
files_fit-last told next seen [] x t = and_true (file_fits (copy_number next seen x) (places_from told x 0) t)
files_fit-last told next seen (y ∷ xs) x t =
    let one : List Change = file_copied (copy_number next seen y) (places_from told y 0) t in
    let u : Tables = tables_after one t in
    let rest : List Change = files_copied told next seen xs u in
    let here : Bool = file_fits (copy_number next seen y) (places_from told y 0) t in
    let others : Bool = files_fit told next seen xs u in
    let last : Tables → Bool = λ z. file_fits (copy_number next seen x) (places_from told x 0) z in
    ap (λ b. here && b) (files_fit-last told next seen xs x u) ∙ and_assoc here others (last (tables_after rest u))
    ∙ ap (λ (z : Tables). (here && others) && last z) (tables_after-tables_after one rest t)

-- the numbers of their copies alone decide
pub files_copied-same : (told : Tables) (next : ℕ) (seen other xs : List ℕ) (t : Tables)
    → ((x : ℕ) → is_among xs x ≡ true → copy_number next other x ≡ copy_number next seen x)
    → files_copied told next other xs t ≡ files_copied told next seen xs t
files_copied-same told next seen other [] t same = refl
files_copied-same told next seen other (y ∷ xs) t same =
    ap (λ n. file_copied n (places_from told y 0) t ++ files_copied told next other xs (tables_after (file_copied n (places_from told y 0) t) t))
    (same y (or_left (y == y) (is_among xs y) (eq-eqb y y refl)))
    ∙ ap (λ (cs : List Change). file_copied (copy_number next seen y) (places_from told y 0) t ++ cs)
    (files_copied-same told next seen other xs (tables_after (file_copied (copy_number next seen y) (places_from told y 0) t) t)
    (λ x among. same x (or_right (y == x) (is_among xs x) among)))

pub files_fit-same : (told : Tables) (next : ℕ) (seen other xs : List ℕ) (t : Tables)
    → ((x : ℕ) → is_among xs x ≡ true → copy_number next other x ≡ copy_number next seen x)
    → files_fit told next other xs t ≡ files_fit told next seen xs t
files_fit-same told next seen other [] t same = refl
files_fit-same told next seen other (y ∷ xs) t same =
    ap (λ n. file_fits n (places_from told y 0) t && files_fit told next other xs (tables_after (file_copied n (places_from told y 0) t) t))
    (same y (or_left (y == y) (is_among xs y) (eq-eqb y y refl)))
    ∙ ap (λ b. file_fits (copy_number next seen y) (places_from told y 0) t && b)
    (files_fit-same told next seen other xs (tables_after (file_copied (copy_number next seen y) (places_from told y 0) t) t)
    (λ x among. same x (or_right (y == x) (is_among xs x) among)))
