-- Names of a page fit into a frame.
use Rattle.std.proofs.Common.{◌≡◌, ◌≤◌, ℕ, List, length, map, sym, ap, ◌∙◌, subst, arith, IsTrue}
use Rattle.std.specs.Prelude.{◌&&◌, nat_lt, nat_le}
use Rattle.std.specs.List.{list_all}
use Rattle.std.proofs.lemmas.Bool.{and_from, and_parts}
use Rattle.std.proofs.lemmas.List.{length-map}
use Rattle.std.proofs.lemmas.List.Folds.{list_all-map}
use Rattle.op_frames.specs.declared.reply.DirEntry.{DirEntry}
use Rattle.op_frames.specs.declared.reply.Reply.TheVariants as replies
use Rattle.op_frames.specs.Answers.{is_short_name, has_short_data}
use Rattle.s3_rows.specs.Keyed.{Order, is_past, rises}
use Rattle.s3_rows.specs.Told.{has_short_name, is_page}
use Rattle.row_lemmas.proofs.Tests.{list_all_weaker}

module _ {R : Type 0} (o : Order (List ℕ) R) (name_of : R → List ℕ) (after : List ℕ) (most : ℕ) (rows : List R) (few : most ≤ 256)
    (page : IsTrue (is_page o after most rows && list_all (λ r. has_short_name (name_of r)) rows)) where
  short_names : (names : List (List ℕ)) → names ≡ map name_of rows → IsTrue (nat_le (length names) 256 && list_all is_short_name names)
  short_names names same =
      let parts = and_parts (is_page o after most rows) (list_all (λ r. has_short_name (name_of r)) rows) page in
      let count = (and_parts (nat_le (length rows) most) (list_all (is_past o after) rows) (and_parts (nat_le (length rows) most && list_all (is_past o after) rows) (rises o rows) parts.0).0).0 in
      let long : length names ≡ length rows = ap length same ∙ length-map rows name_of in
      and_from (nat_le (length names) 256) (list_all is_short_name names) (grind (arith, few, count, long))
      (ap (list_all is_short_name) same ∙ list_all-map is_short_name name_of rows
      ∙ list_all_weaker (λ r. has_short_name (name_of r)) (λ r. is_short_name (name_of r)) (λ r short. (and_parts (nat_lt 0 (length (name_of r))) (nat_le (length (name_of r)) 255) short).1) rows parts.1)

  pub short_data-Names : (names : List (List ℕ)) → names ≡ map name_of rows → IsTrue (has_short_data (replies.Names names))
  short_data-Names names same = short_names names same

  pub short_data-Entries : (entries : List DirEntry) → map (λ e. e.name) entries ≡ map name_of rows → IsTrue (has_short_data (replies.Entries entries))
  short_data-Entries entries same =
      let name : DirEntry → List ℕ = λ e. e.name in
      let parts = and_parts (nat_le (length (map name entries)) 256) (list_all is_short_name (map name entries)) (short_names (map name entries) same) in
      and_from (nat_le (length entries) 256) (list_all (λ (e : DirEntry). is_short_name e.name) entries) (subst (λ n. IsTrue (nat_le n 256)) (length-map entries name) parts.0) (sym (list_all-map is_short_name name entries) ∙ parts.1)
