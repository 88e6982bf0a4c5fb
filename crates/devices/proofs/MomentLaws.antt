-- Laws of moments: how two calls join.
use Rattle.std.proofs.Common.{◌≡◌, ℕ, ◌≤◌, List, ◌∷◌, refl, sym, ap, ◌∙◌, subst, inl, inr, arith, IsTrue, Result}
use Rattle.std.proofs.lemmas.Bool.{cases_lt}
use Rattle.std.proofs.Math.Nat.{le_of_eq}
use Rattle.devices.specs.State.{State, Call, Amid, after}
use Rattle.devices.specs.World.{Standing, Goes, GoesOn, Moments, MomentsSent, Makes, Outside, IsTimed, now, sent_at, sent_by, sent}

pub Goes-refl : (a : Standing) → Goes a a
Goes-refl a = record { lines = refl; blocks = refl; told = refl; honest = refl; outside = refl; clock = omega arith; earlier = λ m h. refl; nvm_faults = omega arith; ssd_faults = omega arith; block_reads = omega arith }

pub Goes-trans : {a b c : Standing} → Goes a b → Goes b c → Goes a c
Goes-trans {a} {b} {c} first second = record {
  lines = second.lines ∙ first.lines;
  blocks = second.blocks ∙ first.blocks;
  told = second.told ∙ first.told;
  honest = second.honest ∙ first.honest;
  outside = second.outside ∙ first.outside;
  clock = omega arith;
  earlier = λ m h. second.earlier m (omega arith) ∙ first.earlier m h;
  nvm_faults = omega arith;
  ssd_faults = omega arith;
  block_reads = omega arith;
}

-- two calls, one after the other: what each moment of both has, each moment of the two has
pub Moments-trans : {a b c : Standing} {P : State → Type 0} → Goes b c → Moments a b P → Moments b c P → Moments a c P
Moments-trans {a} {b} {c} {P} goes first second = record {
  each = λ m low high. elim (cases_lt b.clock m) [
    | inl later ↦ second.each m (omega arith) high
    | inr earlier ↦ subst P (sym (goes.earlier m earlier)) (first.each m low earlier)
  ];
}

-- what holds at each moment implies what it implies
pub Moments-map : {a b : Standing} {P Q : State → Type 0} → ((s : State) → P s → Q s) → Moments a b P → Moments a b Q
Moments-map {a} {b} f all = record { each = λ m low high. f (b.at m) (all.each m low high) }

-- a call under which a run of calls begins
pub Amid-first : {T E : Type 0} {a b : Standing} {call : Call} {result : Result T E} (calls : List Call) → IsTrue a.told → Makes call a b result → Moments a b (Amid (now a) (call ∷ calls))
Amid-first {a = a} {b = b} calls told makes = record { each = λ m low high. inl ((makes.part told).each m low high) }

-- and the calls behind it
pub Amid-next : {T E : Type 0} {a b c : Standing} {call : Call} {result : Result T E} (calls : List Call) → IsTrue a.told → Makes call a b result → now b ≡ after call (now a)
    → Goes b c → Moments b c (Amid (now b) calls) → Moments a c (Amid (now a) (call ∷ calls))
Amid-next {a = a} {b = b} {c = c} {call = call} calls told makes whole goes later =
    Moments-trans goes (Amid-first calls told makes)
    (record { each = λ m low high. inr (subst (λ (s : State). Amid s calls (c.at m)) whole (later.each m low high)) })

-- What was sent stands still over a call of the devices.
pub Goes-sent : {a b : Standing} → IsTimed a → Goes a b → (m : ℕ) → a.clock ≤ m → sent_at b m ≡ sent a
Goes-sent {a} {b} timed goes m later = ap (λ (o : Outside). sent_by o.changes m) goes.outside ∙ timed m later

pub Goes-timed : {a b : Standing} → IsTimed a → Goes a b → IsTimed b
Goes-timed {a} {b} timed goes m later = Goes-sent timed goes m (omega arith) ∙ sym (Goes-sent timed goes b.clock goes.clock)

pub Moments-sent : {a b : Standing} {P : State → Type 0} → IsTimed a → Goes a b → Moments a b P → MomentsSent a b (λ s out. P s × (out ≡ sent a))
Moments-sent {a} {b} timed goes all = record { each = λ m low high. (all.each m low high, Goes-sent timed goes m low) }

-- what every call of the devices keeps, a call of a world keeps too
pub Goes-on : {a b : Standing} → Goes a b → GoesOn a b
Goes-on {a} {b} goes = record {
  lines = goes.lines;
  blocks = goes.blocks;
  told = goes.told;
  honest = goes.honest;
  clock = goes.clock;
  earlier = goes.earlier;
  earlier_sent = λ m h. ap (λ (o : Outside). sent_by o.changes m) goes.outside;
  nvm_faults = goes.nvm_faults;
  ssd_faults = goes.ssd_faults;
  block_reads = goes.block_reads;
  settings_faults = le_of_eq (sym (ap (λ (o : Outside). o.settings_faults) goes.outside));
  source_faults = le_of_eq (sym (ap (λ (o : Outside). o.source_faults) goes.outside));
  sink_faults = le_of_eq (sym (ap (λ (o : Outside). o.sink_faults) goes.outside));
}

pub GoesOn-trans : {a b c : Standing} → GoesOn a b → GoesOn b c → GoesOn a c
GoesOn-trans {a} {b} {c} first second = record {
  lines = second.lines ∙ first.lines;
  blocks = second.blocks ∙ first.blocks;
  told = second.told ∙ first.told;
  honest = second.honest ∙ first.honest;
  clock = omega arith;
  earlier = λ m h. second.earlier m (omega arith) ∙ first.earlier m h;
  earlier_sent = λ m h. second.earlier_sent m (omega arith) ∙ first.earlier_sent m h;
  nvm_faults = omega arith;
  ssd_faults = omega arith;
  block_reads = omega arith;
  settings_faults = omega arith;
  source_faults = omega arith;
  sink_faults = omega arith;
}

-- the same over two calls of a world
pub MomentsSent-trans : {a b c : Standing} {P : State → List ℕ → Type 0} → GoesOn b c → MomentsSent a b P → MomentsSent b c P → MomentsSent a c P
MomentsSent-trans {a} {b} {c} {P} goes first second = record {
  each = λ m low high. elim (cases_lt b.clock m) [
    | inl later ↦ second.each m (omega arith) high
    | inr earlier ↦ subst (λ (s : State). P s (sent_at c m)) (sym (goes.earlier m earlier))
        (subst (λ xs. P (b.at m) xs) (sym (goes.earlier_sent m earlier)) (first.each m low earlier))
  ];
}
