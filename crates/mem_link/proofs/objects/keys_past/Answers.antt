-- Once there are as many items as were asked for, they are the first of all.
use Rattle.std.proofs.Common.{◌≡◌, ℕ, List, ◌++◌, length, take, sym, ap, ◌∙◌, arith}
use Rattle.std.specs.Prelude.{map, filter}
use Rattle.std.specs.Ordering.{is_lt}
use Rattle.std.proofs.Math.Seq.{take-append_seam}
use Rattle.std.proofs.lemmas.List.{take-map}
use Rattle.s3_devices.specs.Objects.{Objects, key_cmp}
use Rattle.s3_devices.specs.LinkAnswers.{item_of}
use Rattle.mem_link.proofs.objects.keys_past.Goals as goal

first_of_all : {A : Type 0} (n : ℕ) (xs ys all : List A) → length xs ≡ n → xs ++ ys ≡ all → xs ≡ take n all
first_of_all n xs ys all full is = sym (take-append_seam xs ys) ∙ ap (λ m. take m (xs ++ ys)) full ∙ ap (take n) is

pub returns-then-len-max : goal.returns-then-len-max
returns-then-len-max c =
    let past : Objects = filter (λ e. is_lt (key_cmp c.args.after.now e.0)) c.args.objects.now.entries in
    let full : length c.loop-key.keys ≡ c.args.max = omega arith in
    first_of_all c.args.max c.loop-key.keys (map item_of c.loop-key.key-iterator) (map item_of past) full c.loop-key.invariant.all
    ∙ take-map item_of c.args.max past
