-- Laws of the definitions in this folder, for proofs and for callers. Assumes nothing.
use Rattle.std.specs.Prelude.{ℕ, zero, suc, ◌+◌, ◌≤◌, ◌<◌, ◌≡◌, refl, Option, Some, None, MatchOption, Result, Ok, Err, MatchResult, IfOk, IfSome, Bool, true, false, cond, ◌&&◌, List, [], ◌∷◌, ◌++◌, length, get_or, replicate, leb, eqb, ltb, vec_len}
use Rattle.std.specs.declared.vec.Vec.{Vec}
use Rattle.arrayvec.specs.ArrayVec.{ArrayVec, array_vec_len}
use Rattle.std.proofs.Common.{arith, sym, ◌∙◌, ap, le_trans, append-nil, append_assoc, length-append, le-leb, leb-true}
use borrow.Author.Tests.{lt-leb}
use Rattle.script.specs.declared.Name.{Name}
use Rattle.script.specs.declared.Command.{Command}
use Rattle.script.specs.declared.BadLine.{BadLine}
use Rattle.script.specs.Words.{words_of, is_empty, first_of, rest_of, number_of, up_to, value_of, word_value, fitting, each_of, values_of, are_bytes}
use Rattle.script.specs.Command.{name_of, value_at, tick_limits, tick_of, tick_call, telegram_call, write_call, read_call, image_call, part_call}
use Rattle.script.specs.Command.{load_call, call_of, named_call, or_error, command_of, Within}
use Rattle.script.specs.Answer.{joined, all_put, place_after_all, Stopped, Written, Filled, Fitted}

-- the value of a number up to a limit
pub value-within : (limit : ℕ) (n : Option ℕ) → up_to limit n ≡ true → value_of n ≤ limit
value-within limit (Some v) e = leb-true v limit e
value-within limit None e = absurd (let z : false ≡ true = e in cc)

pub both_true : (a b : Bool) → (a && b) ≡ true → (a ≡ true) × (b ≡ true)
both_true true b e = (refl, e)
both_true false b e = absurd (let z : false ≡ true = e in cc)

-- values of words that fit are within their limits
pub fitting-within : (limits : List ℕ) (ws : List (List ℕ)) (k : ℕ) → fitting limits ws ≡ true → k < length limits
    → get_or (values_of (length limits) ws) k 0 ≤ get_or limits k 0
unfolding fitting each_of
fitting-within [] ws k e h = absurd (omega arith)
fitting-within (l ∷ ls) ws zero e h = value-within l (number_of (first_of ws)) (both_true (up_to l (number_of (first_of ws))) (fitting ls (rest_of ws)) e).0
fitting-within (l ∷ ls) ws (suc k) e h =
    fitting-within ls (rest_of ws) k (both_true (up_to l (number_of (first_of ws))) (fitting ls (rest_of ws)) e).1 (omega arith)

-- ---- lengths

-- of a call, if there is one
abbrev WithinCall : Option Command → Type 0
WithinCall o = IfSome o Within

-- a call by a test, else none
or-none : (t : Bool) (a : Command) → (t ≡ true → Within a) → WithinCall (cond t (Some a) None)
or-none true a h = h refl
or-none false a h = tt

bytes-within : (most : ℕ) (ws : List (List ℕ)) → are_bytes most ws ≡ true → length ws ≤ most
bytes-within most ws e = leb-true (length ws) most (both_true (leb (length ws) most) (fitting (replicate (length ws) 255) ws) e).0

call-within : (name : Name) (ws : List (List ℕ)) → WithinCall (call_of name ws)
unfolding call_of tick_call telegram_call write_call read_call image_call part_call load_call
call-within Name.Factory ws = or-none (is_empty ws) Command.Factory (λ _. tt)
call-within Name.Tick ws = or-none (fitting tick_limits ws) (tick_of ws) (λ _. tt)
call-within Name.Telegram ws =
    or-none (up_to 255 (number_of (first_of ws)) && are_bytes 64 (rest_of ws)) (Command.Telegram (word_value (first_of ws)) (length (rest_of ws)))
    (λ e. bytes-within 64 (rest_of ws) (both_true (up_to 255 (number_of (first_of ws))) (are_bytes 64 (rest_of ws)) e).1)
call-within Name.Write ws =
    or-none (fitting (255 ∷ 255 ∷ 4294967295 ∷ 4294967295 ∷ []) ws)
    (Command.Write (value_at 4 ws 0) (value_at 4 ws 1) (value_at 4 ws 2) (value_at 4 ws 3)) (λ _. tt)
call-within Name.Warm ws = or-none (is_empty ws) Command.Warm (λ _. tt)
call-within Name.Read ws = or-none (fitting (255 ∷ 255 ∷ []) ws) (Command.Read (value_at 2 ws 0) (value_at 2 ws 1)) (λ _. tt)
call-within Name.Image ws =
    or-none (fitting (64 ∷ []) ws) (Command.Image (value_at 1 ws 0)) (λ e. fitting-within (64 ∷ []) ws 0 e (omega arith))
call-within Name.Part ws =
    or-none (fitting (255 ∷ 64 ∷ []) ws) (Command.Part (value_at 2 ws 0) (value_at 2 ws 1)) (λ e. fitting-within (255 ∷ 64 ∷ []) ws 1 e (omega arith))
call-within Name.Total ws = or-none (is_empty ws) Command.Total (λ _. tt)
call-within Name.Load ws = or-none (are_bytes 256 ws) (Command.Load (length ws)) (bytes-within 256 ws)

named-within : (name : Option Name) (ws : List (List ℕ)) → WithinCall (named_call name ws)
named-within (Some name) ws = call-within name ws
named-within None ws = tt

-- of a line's call
abbrev pub WithinLine : Result (Option Command) BadLine → Type 0
WithinLine r = IfOk r (λ o. IfSome o Within)

by-test : (t : Bool) (a b : Result (Option Command) BadLine) → WithinLine a → WithinLine b → WithinLine (cond t a b)
by-test true a b h k = h
by-test false a b h k = k

error-within : (o : Option Command) → WithinCall o → WithinLine (or_error o)
error-within (Some command) h = h
error-within None h = tt

-- "A length: 0 to 64."; "from none to 64", "none to 256 bytes"
pub length-within : (line : List ℕ) → WithinLine (command_of line)
unfolding command_of
length-within line =
    let ws = words_of line in
    let d = named_call (name_of (first_of ws)) (rest_of ws) in
    by-test (ltb 4096 (length line)) _ _ tt
    (by-test (is_empty ws) _ _ tt
    (by-test (eqb (get_or line 0 0) 35) _ _ tt (error-within d (named-within (name_of (first_of ws)) (rest_of ws)))))

-- ---- answers

-- parts put after others: nothing more where one of those did not fit
pub put-append : (room : ℕ) (s : List ℕ) (ps qs : List (List ℕ)) → MatchOption (place_after_all room s ps)
    (all_put room s (ps ++ qs) ≡ all_put room s ps)
    (λ at. all_put room s (ps ++ qs) ≡ all_put room (all_put room s ps) qs)
unfolding all_put place_after_all
put-append room s [] qs = refl
put-append room s (p ∷ ps) qs = go (leb (length s + length p) room) (put-append room (s ++ p) ps qs)
  where
    go : (t : Bool)
        → MatchOption (place_after_all room (s ++ p) ps)
        (all_put room (s ++ p) (ps ++ qs) ≡ all_put room (s ++ p) ps)
        (λ at. all_put room (s ++ p) (ps ++ qs) ≡ all_put room (all_put room (s ++ p) ps) qs)
        → MatchOption (cond t (place_after_all room (s ++ p) ps) None)
        (cond t (all_put room (s ++ p) (ps ++ qs)) s ≡ cond t (all_put room (s ++ p) ps) s)
        (λ at. cond t (all_put room (s ++ p) (ps ++ qs)) s ≡ all_put room (cond t (all_put room (s ++ p) ps) s) qs)
    go true i = i
    go false i = refl

-- and the place after them
pub place-append : (room : ℕ) (s : List ℕ) (ps qs : List (List ℕ)) → MatchOption (place_after_all room s ps)
    (place_after_all room s (ps ++ qs) ≡ None)
    (λ at. place_after_all room s (ps ++ qs) ≡ place_after_all room (all_put room s ps) qs)
unfolding all_put place_after_all
place-append room s [] qs = refl
place-append room s (p ∷ ps) qs = go (leb (length s + length p) room) (place-append room (s ++ p) ps qs)
  where
    go : (t : Bool)
        → MatchOption (place_after_all room (s ++ p) ps)
        (place_after_all room (s ++ p) (ps ++ qs) ≡ None)
        (λ at. place_after_all room (s ++ p) (ps ++ qs) ≡ place_after_all room (all_put room (s ++ p) ps) qs)
        → MatchOption (cond t (place_after_all room (s ++ p) ps) None)
        (cond t (place_after_all room (s ++ p) (ps ++ qs)) None ≡ None)
        (λ at. cond t (place_after_all room (s ++ p) (ps ++ qs)) None ≡ place_after_all room (cond t (all_put room (s ++ p) ps) s) qs)
    go true i = i
    go false i = refl

-- where the text of the parts has room, it stands behind s, and the place after it is its end
pub put_whole : (room : ℕ) (s : List ℕ) (ps : List (List ℕ)) → length s + length (joined ps) ≤ room
    → (all_put room s ps ≡ s ++ joined ps) × (place_after_all room s ps ≡ Some (length s + length (joined ps)))
unfolding all_put place_after_all
put_whole room s [] h = let e : length s ≡ length s + 0 = omega arith in (sym (append-nil s), ap Some e)
put_whole room s (p ∷ ps) h =
    let l = length-append p (joined ps) in
    let n = length-append s p in
    let f : leb (length s + length p) room ≡ true = le-leb (length s + length p) room (omega arith) in
    let i = put_whole room (s ++ p) ps (omega arith) in
    let e : length (s ++ p) + length (joined ps) ≡ length s + length (p ++ joined ps) = omega arith in
    (rw f (i.0 ∙ append_assoc s p (joined ps)), rw f (i.1 ∙ ap Some e))

-- where it has not, there is no place after it
pub put_short : (room : ℕ) (s : List ℕ) (ps : List (List ℕ)) → length s ≤ room → room < length s + length (joined ps) → place_after_all room s ps ≡ None
unfolding place_after_all
put_short room s [] k h = absurd (omega arith)
put_short room s (p ∷ ps) k h =
    let l = length-append p (joined ps) in
    let n = length-append s p in
    go (leb (length s + length p) room) refl (λ f. put_short room (s ++ p) ps (omega arith) (omega arith))
  where
    go : (t : Bool) → leb (length s + length p) room ≡ t → (length s + length p ≤ room → place_after_all room (s ++ p) ps ≡ None)
        → cond t (place_after_all room (s ++ p) ps) None ≡ None
    go true t i = i (leb-true (length s + length p) room t)
    go false t i = refl

pub joined-append : (ps qs : List (List ℕ)) → joined (ps ++ qs) ≡ joined ps ++ joined qs
joined-append [] qs = refl
joined-append (p ∷ ps) qs = rw (joined-append ps qs) (sym (append_assoc p (joined ps) (joined qs)))

-- nor is anything more put
put-more : (room : ℕ) (s : List ℕ) (ps qs : List (List ℕ)) → room < length s + length (joined ps) → all_put room s (ps ++ qs) ≡ all_put room s ps
unfolding all_put
put-more room s [] [] h = refl
put-more room s [] (q ∷ qs) h = let f : leb (length s + length q) room ≡ false = lt-leb (length s + length q) room (omega arith) in rw f
put-more room s (p ∷ ps) qs h =
    let l = length-append p (joined ps) in
    let n = length-append s p in
    go (leb (length s + length p) room) (put-more room (s ++ p) ps qs (omega arith))
  where
    go : (t : Bool) → all_put room (s ++ p) (ps ++ qs) ≡ all_put room (s ++ p) ps
        → cond t (all_put room (s ++ p) (ps ++ qs)) s ≡ cond t (all_put room (s ++ p) ps) s
    go true i = i
    go false i = refl

-- parts written after others that were written: all, or as many as there was memory for
pub written-append : {A F E : Type 0} {a b c : Vec ℕ A} {ps qs : List (List ℕ)} {u : Unit {0}} {r : Result (Unit {0}) E}
    → Written {E = F} a b ps (Ok u) → Written b c qs r → Written a c (ps ++ qs) r
written-append {A} {F} {E} {a} {b} {c} {ps} {qs} {u} {r} v w = record {
  bytes = go r w.bytes;
  capacity = le_trans v.capacity w.capacity;
  succeeds = λ h. w.succeeds (omega (arith, h, text, held, v.capacity));
}
  where
    text : length (joined (ps ++ qs)) ≡ length (joined ps) + length (joined qs)
    text = ap length (joined-append ps qs) ∙ length-append (joined ps) (joined qs)

    held : vec_len b ≡ vec_len a + length (joined ps)
    held = omega (arith, a.ok.0, b.ok.0, ap length v.bytes, length-append a.items (joined ps))

    go : (r : Result (Unit {0}) E) → MatchResult r (λ _. c.items ≡ b.items ++ joined qs) (λ _. Stopped b c qs)
        → MatchResult r (λ _. c.items ≡ a.items ++ joined (ps ++ qs)) (λ _. Stopped a c (ps ++ qs))
    go (Ok x) e = e ∙ rw (v.bytes, joined-append ps qs) (append_assoc a.items (joined ps) (joined qs))
    go (Err x) e =
        let whole = put_whole e.room a.items ps (omega (arith, held, a.ok.0, b.ok.1, e.at_least)) in
        let more : all_put e.room a.items (ps ++ qs) ≡ all_put e.room (all_put e.room a.items ps) qs = rw whole.1 at (put-append e.room a.items ps qs) in
        record {
          room = e.room;
          at_least = le_trans v.capacity e.at_least;
          at_most = e.at_most;
          short = omega (arith, e.short, text, held);
          items = e.items ∙ sym (more ∙ rw (whole.0, v.bytes));
        }

-- and after others that there was no memory for: those stand that stood
pub written-stopped : {A E F : Type 0} {a b : Vec ℕ A} {ps : List (List ℕ)} {e : E} (qs : List (List ℕ)) (f : F)
    → Written a b ps (Err e) → Written {E = F} a b (ps ++ qs) (Err f)
written-stopped {A} {E} {F} {a} {b} {ps} {e} qs f w = record {
  bytes = record {
    room = s.room;
    at_least = s.at_least;
    at_most = s.at_most;
    short = omega (arith, s.short, text);
    items = s.items ∙ sym same;
  };
  capacity = w.capacity;
  succeeds = λ h. w.succeeds (omega (arith, h, text));
}
  where
    s : Stopped a b ps
    s = w.bytes

    text : length (joined (ps ++ qs)) ≡ length (joined ps) + length (joined qs)
    text = ap length (joined-append ps qs) ∙ length-append (joined ps) (joined qs)

    same : all_put s.room a.items (ps ++ qs) ≡ all_put s.room a.items ps
    same =
        let none = put_short s.room a.items ps (omega (arith, a.ok.0, a.ok.1, s.at_least)) (omega (arith, a.ok.0, s.short)) in
        rw none at (put-append s.room a.items ps qs)

-- the same of a vector of a fixed capacity

-- parts written after others that were written: all, or as many as there was room for
pub fitted-append : {F E : Type 0} {N : ℕ} {a b c : ArrayVec ℕ} {ps qs : List (List ℕ)} {u : Unit {0}} {r : Result (Unit {0}) E}
    → Fitted {E = F} N a b ps (Ok u) → Fitted N b c qs r → Fitted N a c (ps ++ qs) r
fitted-append {F} {E} {N} {a} {b} {c} {ps} {qs} {u} {r} v w = record {
  bytes = go r w.bytes;
  succeeds = (λ k. omega (arith, w.succeeds.0 k, text, held), λ h. w.succeeds.1 (omega (arith, h, text, held)));
}
  where
    text : length (joined (ps ++ qs)) ≡ length (joined ps) + length (joined qs)
    text = ap length (joined-append ps qs) ∙ length-append (joined ps) (joined qs)

    held : array_vec_len b ≡ array_vec_len a + length (joined ps)
    held = ap length v.bytes ∙ length-append a.items (joined ps)

    go : (r : Result (Unit {0}) E) → MatchResult r (λ _. c.items ≡ b.items ++ joined qs) (λ _. Filled N b c qs)
        → MatchResult r (λ _. c.items ≡ a.items ++ joined (ps ++ qs)) (λ _. Filled N a c (ps ++ qs))
    go (Ok x) e = e ∙ rw (v.bytes, joined-append ps qs) (append_assoc a.items (joined ps) (joined qs))
    go (Err x) e =
        let whole = put_whole N a.items ps (v.succeeds.0 refl) in
        let more : all_put N a.items (ps ++ qs) ≡ all_put N (all_put N a.items ps) qs = rw whole.1 at (put-append N a.items ps qs) in
        record {
          short = omega (arith, e.short, text, held);
          items = e.items ∙ sym (more ∙ rw (whole.0, v.bytes));
        }

-- and after others that there was no room for: those stand that stood
pub fitted-filled : {E F : Type 0} {N : ℕ} {a b : ArrayVec ℕ} {ps : List (List ℕ)} {e : E} (qs : List (List ℕ)) (f : F)
    → Fitted N a b ps (Err e) → Fitted {E = F} N a b (ps ++ qs) (Err f)
fitted-filled {E} {F} {N} {a} {b} {ps} {e} qs f w = record {
  bytes = record { short = omega (arith, s.short, text); items = s.items ∙ sym (put-more N a.items ps qs s.short) };
  succeeds = (λ k. absurd (let z : false ≡ true = k in cc), λ h. absurd (omega (arith, h, s.short, text)));
}
  where
    s : Filled N a b ps
    s = w.bytes

    text : length (joined (ps ++ qs)) ≡ length (joined ps) + length (joined qs)
    text = ap length (joined-append ps qs) ∙ length-append (joined ps) (joined qs)
