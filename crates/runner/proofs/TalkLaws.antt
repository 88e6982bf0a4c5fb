-- What a run sends is whole replies.
use Rattle.std.proofs.Common.{◌≡◌, ◌∙◌, ℕ, List, [], ◌∷◌, ◌++◌, refl, sym, ap, subst, append_assoc, true, false, IsTrue, Result, Ok, Err}
use Rattle.std.specs.Prelude.{OnOk, IfErr, IsErr, IsErrAnd}
use Rattle.std.proofs.lemmas.List.{append-nil}
use Rattle.std.proofs.lemmas.List.Concat.{flat_map-append}
use Rattle.devices.specs.World.{Standing, Outside, Goes, GoesOn, OnlyChanges, IsTimed, sent, sent_by}
use Rattle.devices.proofs.MomentLaws.{Goes-sent}
use Rattle.line_pages.specs.declared.stop.Stop.{Stop}
use Rattle.script.specs.Replies.{reply_text, text}
use Rattle.script.specs.declared.command.Reply.{Reply}
use Rattle.runner.specs.declared.stop.Halt.{Halt}
use Rattle.runner.specs.declared.stop.Halt.TheVariants.{Store, Source, Sink}
use Rattle.runner.specs.Sent.{SendsReplies, Talks, IsSaid, TalksOn}
use Rattle.runner.proofs.CauseLaws.{OnOk-any}
use Rattle.runner.proofs.RunLaws.{handed_on}

none_sent : (a b : Standing) → sent b ≡ sent a → SendsReplies a b
none_sent a b same = record { replies = []; sends = same ∙ sym (append-nil (sent a)) }

sends_then : (a b c : Standing) → SendsReplies a b → SendsReplies b c → SendsReplies a c
sends_then a b c first second = record {
  replies = first.replies ++ second.replies;
  sends = second.sends
      ∙ ap (λ (l : List ℕ). l ++ text second.replies) first.sends
      ∙ append_assoc (sent a) (text first.replies) (text second.replies)
      ∙ ap (λ (l : List ℕ). sent a ++ l) (sym (flat_map-append reply_text first.replies second.replies));
}

-- ---- one call

pub talks_refl : (a : Standing) → Talks a a
talks_refl a = record { settings = refl; settings_faults = refl; sends = λ told. none_sent a a refl }

-- a call of an engine sends nothing
pub talks_goes : {a b : Standing} → IsTimed a → Goes a b → Talks a b
talks_goes {a} {b} timed goes = record {
  settings = ap (λ (o : Outside). o.settings) goes.outside;
  settings_faults = ap (λ (o : Outside). o.settings_faults) goes.outside;
  sends = λ told. none_sent a b (Goes-sent timed goes b.clock goes.clock);
}

-- nor does a read
pub talks_read : {a b : Standing} → IsTimed a → GoesOn a b → OnlyChanges false true false a b → Talks a b
talks_read {a} {b} timed goes rest = record {
  settings = (rest.settings refl).0;
  settings_faults = (rest.settings refl).1;
  sends = λ told. none_sent a b (ap (λ changes. sent_by changes b.clock) (rest.output refl).0 ∙ timed b.clock goes.clock);
}

-- a reply
pub talks_say : {a b : Standing} (bytes : List ℕ) (reply : Reply) → bytes ≡ reply_text reply → OnlyChanges false false true a b → (IsTrue a.told → sent b ≡ sent a ++ bytes) → Talks a b
talks_say {a} {b} bytes reply is rest all = record {
  settings = (rest.settings refl).0;
  settings_faults = (rest.settings refl).1;
  sends = λ told. record { replies = reply ∷ []; sends = all told ∙ ap (λ (l : List ℕ). sent a ++ l) (is ∙ sym (append-nil (reply_text reply))) };
}

-- ---- one after another

pub talks_then : {a b c : Standing} → Talks a b → b.told ≡ a.told → Talks b c → Talks a c
talks_then {a} {b} {c} first same second = record {
  settings = second.settings ∙ first.settings;
  settings_faults = second.settings_faults ∙ first.settings_faults;
  sends = λ told. sends_then a b c (first.sends told) (second.sends (subst IsTrue (sym same) told));
}

pub on_ok : {T : Type 0} {a b : Standing} (v : T) → Talks a b → TalksOn a b (Ok v)
on_ok v it = record { settings = it.settings; settings_faults = it.settings_faults; ok = it.sends; stopped = λ told. tt }

pub ok_of : {T : Type 0} {a b : Standing} (v : T) → TalksOn a b (Ok v) → Talks a b
ok_of v it = record { settings = it.settings; settings_faults = it.settings_faults; sends = it.ok }

said_then : (a b c : Standing) → SendsReplies a b → (why : Halt) → IsSaid b c why → IsSaid a c why
said_then a b c first (Store stop) it = sends_then a b c first it
said_then a b c first Source it = sends_then a b c first it
said_then a b c first Sink it = tt

on_then_result : {T : Type 0} (a b c : Standing) → SendsReplies a b → (r : Result T Halt) → OnOk r (SendsReplies b c) → OnOk r (SendsReplies a c)
on_then_result a b c first (Ok v) it = sends_then a b c first it
on_then_result a b c first (Err why) it = tt

stopped_then_result : {T : Type 0} (a b c : Standing) → SendsReplies a b → (r : Result T Halt) → IfErr r (IsSaid b c) → IfErr r (IsSaid a c)
stopped_then_result a b c first (Ok v) it = tt
stopped_then_result a b c first (Err why) it = said_then a b c first why it

pub on_then : {T : Type 0} {a b c : Standing} {r : Result T Halt} → Talks a b → b.told ≡ a.told → TalksOn b c r → TalksOn a c r
on_then {T} {a} {b} {c} {r} first same second = record {
  settings = second.settings ∙ first.settings;
  settings_faults = second.settings_faults ∙ first.settings_faults;
  ok = λ told. on_then_result a b c (first.sends told) r (second.ok (subst IsTrue (sym same) told));
  stopped = λ told. stopped_then_result a b c (first.sends told) r (second.stopped (subst IsTrue (sym same) told));
}

-- ---- errors that `?` hands on

pub on_err : {T U : Type 0} {a b : Standing} (q : Result U Halt) (why : Halt) → IsErr q × IsErrAnd q (λ found. found ≡ why) → TalksOn {T = T} a b (Err why) → TalksOn {T = U} a b q
on_err {T} {U} {a} {b} q why is it =
    subst (λ (x : Result U Halt). TalksOn {T = U} a b x) (sym (handed_on q why is))
    (record { settings = it.settings; settings_faults = it.settings_faults; ok = λ told. tt; stopped = it.stopped })

-- a stop of an engine, and a fault of the script
pub on_stop : {T : Type 0} {a b : Standing} (q : Result T Halt) (stop : Stop) → IsErr q × IsErrAnd q (λ found. found ≡ Store stop) → Talks a b → TalksOn a b q
on_stop {T} {a} {b} q stop is it =
    subst (λ (x : Result T Halt). TalksOn {T = T} a b x) (sym (handed_on q (Store stop) is))
    (record { settings = it.settings; settings_faults = it.settings_faults; ok = λ told. tt; stopped = it.sends })

pub on_source : {T : Type 0} {a b : Standing} (q : Result T Halt) (why : Halt) → IsErr q × IsErrAnd q (λ found. found ≡ why) → why ≡ Source → Talks a b → TalksOn a b q
on_source {T} {a} {b} q why is source it =
    subst (λ (x : Result T Halt). TalksOn {T = T} a b x) (sym (handed_on q why is ∙ ap Err source))
    (record { settings = it.settings; settings_faults = it.settings_faults; ok = λ told. tt; stopped = it.sends })

-- a fault of the output
pub on_sink : {T : Type 0} {a b c : Standing} (q : Result T Halt) (why : Halt) → IsErr q × IsErrAnd q (λ found. found ≡ why) → why ≡ Sink → Talks a b → OnlyChanges false false true b c → TalksOn a c q
on_sink {T} {a} {b} {c} q why is sink it rest =
    subst (λ (x : Result T Halt). TalksOn {T = T} a c x) (sym (handed_on q why is ∙ ap Err sink))
    (record { settings = (rest.settings refl).0 ∙ it.settings; settings_faults = (rest.settings refl).1 ∙ it.settings_faults; ok = λ told. tt; stopped = λ told. tt })

-- ---- a reply

sink_said : {T : Type 0} (a b : Standing) (r : Result T Halt) → IfErr r (λ why. why ≡ Sink) → IfErr r (IsSaid a b)
sink_said a b (Ok v) is = tt
sink_said a b (Err why) is = subst (λ (x : Halt). IsSaid a b x) (sym is) tt

reply_sent : {T : Type 0} (a b : Standing) (bytes : List ℕ) (reply : Reply) (r : Result T Halt) → bytes ≡ reply_text reply → OnOk r (sent b ≡ sent a ++ bytes) → OnOk r (SendsReplies a b)
reply_sent a b bytes reply (Ok v) is it = record { replies = reply ∷ []; sends = it ∙ ap (λ (l : List ℕ). sent a ++ l) (is ∙ sym (append-nil (reply_text reply))) }
reply_sent a b bytes reply (Err why) is it = tt

pub say_on : {T : Type 0} {a b : Standing} (bytes : List ℕ) (reply : Reply) (r : Result T Halt) → bytes ≡ reply_text reply → OnlyChanges false false true a b → (IsTrue a.told → OnOk r (sent b ≡ sent a ++ bytes))
    → IfErr r (λ why. why ≡ Sink) → TalksOn a b r
say_on {T} {a} {b} bytes reply r is rest all sink = record {
  settings = (rest.settings refl).0;
  settings_faults = (rest.settings refl).1;
  ok = λ told. reply_sent a b bytes reply r is (all told);
  stopped = λ told. sink_said a b r sink;
}

-- what a stop of an engine leaves said
pub said_by : {a b : Standing} (why : Halt) (stop : Stop) → why ≡ Store stop → IsSaid a b why → SendsReplies a b
said_by {a} {b} why stop is it = subst (λ (x : Halt). IsSaid a b x) is it
