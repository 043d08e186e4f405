use Rattle.std.proofs.Common.{◌∙◌, ap, refl, sym, subst}
use Rattle.trace_crashes.proofs.Common.{PmemState, words_of}
use Rattle.trace_crashes.proofs.Crashes.{all_words}
use Rattle.trace_crashes.proofs.leaving.left_idle.Goals as goal

pub returns-clause-idle : goal.returns-clause-idle
returns-clause-idle g c = record {
  done = refl;
  no_call = refl;
  no_side = refl;
  image = c.in_ok-image.ensures ∙ c.words.ensures ∙ all_words _ _ c.size_words.ensures.size ∙ ap (λ (s : PmemState). words_of s) c.into_device-device.ensures ∙ c.in_ok-made.ensures.words;
}

pub returns-clause-whole : goal.returns-clause-whole
returns-clause-whole g c =
    let is = c.in_ok-image.ensures ∙ c.words.ensures ∙ all_words _ _ c.size_words.ensures.size ∙ ap (λ (s : PmemState). words_of s) c.into_device-device.ensures in
    subst g.A.SimArena.variant.IsWhole (sym is) c.in_ok-made.ensures.whole
