-- A run, one answered call longer.
use Rattle.std.proofs.Common.{◌≡◌, ℕ, List, [], ◌∷◌, ◌++◌, refl, sym, ap, ◌∙◌, subst, append_assoc}
use Rattle.std.specs.Prelude.{Contains, IsTrue}
use Rattle.std.specs.List.{list_all}
use Rattle.std.proofs.lemmas.Bool.{and_from}
use Rattle.std.proofs.lemmas.Grind.{flat_map-append}
use Rattle.std.proofs.lemmas.List.{append-nil, map-append}
use Rattle.std.proofs.lemmas.List.Folds.{list_all-append}
use Rattle.sha2.specs.Sha256.{sha256}
use Rattle.op_frames.specs.Answers.{answer_frame}
use Rattle.op_frames.specs.Replay.{Replay, Request, with_call, replay_of}
use Rattle.plain_tree.specs.Calls.{Answered, tree_after_reply, tree_at_end}
use Rattle.plain_tree.specs.Tree.{Tree, made_tree}
use Rattle.tree_rows.specs.Contents.{Contents}
use Rattle.core_model.specs.Occurring.{IsCollisionFree, KnowsAll, blocks_in, contents_of, occurring}
use Rattle.offline_tool.specs.declared.served.Served.{Served}
use Rattle.offline_tool.specs.Output.{calls_of, frames_of, has_fit_reply}
use Rattle.offline_tool.specs.Runs.{Answers, IsLikeReply, IsRun, IsSameReply}
use Rattle.offline_tool.specs.Serving.{HasBytesOf, IsBegun, IsServed, Serves}
use Rattle.offline_tool.specs.Turns.{IsMidway}

-- what occurs along runs, as the laws of core_model give it
pub record OccurringLaws : Type 0 where
  pub longer : (m : Contents) (t : Tree) (run more : List Answered) (b : List ℕ) → Contains (occurring m t run) b → Contains (occurring m t (run ++ more)) b
  pub last : (m : Contents) (t : Tree) (run : List Answered) (b : List ℕ) → Contains (blocks_in (tree_at_end t run)) b → Contains (occurring m t run) b
  pub all : (digest_of : List ℕ → List ℕ) (blocks : List (List ℕ)) → IsCollisionFree digest_of blocks → KnowsAll digest_of (contents_of digest_of blocks) blocks
  pub fewer : (digest_of : List ℕ → List ℕ) (blocks others : List (List ℕ)) → ((b : List ℕ) → Contains others b → Contains blocks b)
      → IsCollisionFree digest_of blocks → IsCollisionFree digest_of others
  pub known : (digest_of : List ℕ → List ℕ) (m : Contents) (blocks others : List (List ℕ)) → ((b : List ℕ) → Contains others b → Contains blocks b)
      → KnowsAll digest_of m blocks → KnowsAll digest_of m others

-- ---- runs

tree_at_end-push : (t : Tree) (run : List Answered) (a : Answered) → tree_at_end t (run ++ a ∷ []) ≡ tree_after_reply (tree_at_end t run) a
tree_at_end-push t [] a = refl
tree_at_end-push t (b ∷ run) a = tree_at_end-push (tree_after_reply t b) run a

Answers-push : (Is : Tree → Answered → Type 0) (t : Tree) (run : List Answered) (a : Answered) → Answers Is t run → Is (tree_at_end t run) a → Answers Is t (run ++ a ∷ [])
Answers-push Is t [] a all own = (own, tt)
Answers-push Is t (b ∷ run) a all own = (all.0, Answers-push Is (tree_after_reply t b) run a all.1 own)

module _ (laws : OccurringLaws) where
  -- a digest of a run serves for a shorter one
  free_before : (t : Tree) (run more : List Answered) → IsCollisionFree sha256 (occurring [] t (run ++ more)) → IsCollisionFree sha256 (occurring [] t run)
  free_before t run more = laws.fewer sha256 (occurring [] t (run ++ more)) (occurring [] t run) (laws.longer [] t run more)

  known_before : (m : Contents) (t : Tree) (run more : List Answered) → KnowsAll sha256 m (occurring [] t (run ++ more)) → KnowsAll sha256 m (occurring [] t run)
  known_before m t run more = laws.known sha256 m (occurring [] t (run ++ more)) (occurring [] t run) (laws.longer [] t run more)

  -- contents that know what occurs know the blocks of the last tree
  known_last : (m : Contents) (t : Tree) (run : List Answered) (a : Answered) → KnowsAll sha256 m (occurring [] t (run ++ a ∷ [])) → KnowsAll sha256 m (blocks_in (tree_after_reply (tree_at_end t run) a))
  known_last m t run a knows =
      subst (λ (x : Tree). KnowsAll sha256 m (blocks_in x)) (tree_at_end-push t run a)
      (laws.known sha256 m (occurring [] t (run ++ a ∷ [])) (blocks_in (tree_at_end t (run ++ a ∷ []))) (laws.last [] t (run ++ a ∷ [])) knows)

  IsRun-push : (t : Tree) (run : List Answered) (a : Answered) → IsRun sha256 t run → IsLikeReply (tree_at_end t run) a
      → (IsCollisionFree sha256 (occurring [] t (run ++ a ∷ [])) → IsSameReply (tree_at_end t run) a) → IsRun sha256 t (run ++ a ∷ [])
  IsRun-push t run a is like same = record {
    shape = Answers-push IsLikeReply t run a is.shape like;
    bytes = λ free. Answers-push IsSameReply t run a (is.bytes (free_before t run (a ∷ []) free)) (same free);
  }

  -- ---- midway, one call further

  module _ (size : ℕ) (input : List ℕ) (s after : Served) (place behind : ℕ) (left later : Replay) (out : List ℕ) (a : Answered) (m : IsMidway size input s place left out)
      (same : left ≡ with_call a.call later) (served : IsServed s after behind (tree_at_end (made_tree size 0) m.run) a) (fit : IsTrue (has_fit_reply a)) where
    abbrev start : Tree
    start = made_tree size 0

    abbrev longer : List Answered
    longer = m.run ++ a ∷ []

    calls_on : calls_of longer ++ later.calls ≡ (replay_of input).calls
    calls_on =
        ap (λ (cs : List Request). cs ++ later.calls) (map-append (λ (x : Answered). x.call) m.run (a ∷ [])) ∙ append_assoc (calls_of m.run) (a.call ∷ []) later.calls
        ∙ ap (λ (r : Replay). calls_of m.run ++ r.calls) (sym same) ∙ m.calls

    frames_on : out ++ answer_frame a.reply ≡ frames_of longer
    frames_on =
        ap (λ (f : List ℕ). f ++ answer_frame a.reply) m.frames ∙ ap (λ (f : List ℕ). frames_of m.run ++ f) (sym (append-nil (answer_frame a.reply)))
        ∙ sym (flat_map-append (λ (x : Answered). answer_frame x.reply) m.run (a ∷ []))

    readable_on : IsTrue (list_all has_fit_reply longer)
    readable_on = list_all-append has_fit_reply m.run (a ∷ []) ∙ and_from (list_all has_fit_reply m.run) (list_all has_fit_reply (a ∷ [])) m.readable (and_from (has_fit_reply a) _ fit refl)

    all_of : (c : Contents) → KnowsAll sha256 c (occurring [] start longer) → IsSameReply (tree_at_end start m.run) a × HasBytesOf c after (tree_after_reply (tree_at_end start m.run) a)
    all_of c knows = served.backed c (m.backed c (known_before c start m.run (a ∷ []) knows)) (known_last c start m.run a knows)

    pub goes_further : IsMidway size input after behind later (out ++ answer_frame a.reply)
    goes_further = record {
      run = longer;
      calls = calls_on;
      verdict = ap (λ (r : Replay). r.verdict) (sym same) ∙ m.verdict;
      answers = IsRun-push start m.run a m.answers served.like (λ free. (all_of (contents_of sha256 (occurring [] start longer)) (laws.all sha256 (occurring [] start longer) free)).0);
      readable = readable_on;
      frames = frames_on;
      serves = subst (Serves after behind) (sym (tree_at_end-push start m.run a)) served.serves;
      backed = λ c knows. subst (HasBytesOf c after) (sym (tree_at_end-push start m.run a)) (all_of c knows).1;
    }

-- before the first call
pub begins : (size : ℕ) (input : List ℕ) (s : Served) → IsBegun s (made_tree size 0) → IsMidway size input s 0 (replay_of input) []
begins size input s begun = record {
  run = [];
  calls = refl;
  verdict = refl;
  answers = record { shape = tt; bytes = λ free. tt };
  readable = refl;
  frames = refl;
  serves = begun.serves;
  backed = λ c knows. begun.backed c;
}
