-- By the form of the limits: what is asked of an image with such limits is asked of it by that form.
use Rattle.std.proofs.Common.{sym, ap, subst}
use Rattle.words.specs.Word.{word_at}
use Rattle.setup.specs.Setup.{limits_in}
use Rattle.image.proofs.ReadLaws.{limits-within}
use Rattle.image.proofs.CounterLaws.{penalty_of, reward_of, score_limit_of}
use Rattle.image.proofs.LentLaws.{Asked, Given}
use Rattle.image.proofs.load.load_accounts.Goals as goal

pub load_counters-requires : goal.load_counters-requires
unfolding limits_in penalty_of reward_of
load_counters-requires c =
    let t = c.args in
    let a = subst (Asked t.s.now t.n t.q t.criticality.now t.view) c.in-Counts.is c.requires.n_bound in
    let m = limits-within (word_at t.s.now) a.3 in
    let p = ap penalty_of a.2 in
    let r = ap reward_of a.2 in
    record { n_bound = (a.0, a.1); p_value = (p, r, a.7, a.6, a.4); p_le_most_penalty_limit = (rw p m.0, rw r m.1, a.5); penalty_value = c.requires.first_value }

pub load_scores-requires : goal.load_scores-requires
unfolding limits_in score_limit_of
load_scores-requires c =
    let t = c.args in
    let a = subst (Asked t.s.now t.n t.q t.criticality.now t.view) c.in-Fading.is c.requires.n_bound in
    record { n_bound = (a.0, a.1); limit_value = (ap score_limit_of a.2, a.7, a.4, a.5); high_value = c.requires.first_value }

pub returns-in-Counts : goal.returns-in-Counts
returns-in-Counts c =
    let s = c.args in
    subst (Given s.s.now s.n _ _ _ _) (sym c.in-Counts.is) c.load_counters.ensures

pub returns-in-Fading : goal.returns-in-Fading
returns-in-Fading c =
    let s = c.args in
    subst (Given s.s.now s.n _ _ _ _) (sym c.in-Fading.is) c.load_scores.ensures
