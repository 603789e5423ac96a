-- `answer_bytes`: by cases on the call. Assumes nothing.
use Rattle.session.proofs.Texts as texts
use Rattle.session.proofs.answer_bytes.Goals as goal

pub returns-in-None : goal.returns-in-None
returns-in-None c = texts.by_none _ _ _ c.in-None.is c.call_of.ensures c.answer_malformed.ensures

pub returns-in-Some-Load : goal.returns-in-Some-Load
returns-in-Some-Load c = texts.by_call _ _ _ _ _ c.in-Some-Load.is c.in-Some-Load.field-0-is c.call_of.ensures c.answer_load.ensures

pub returns-in-Some-Cut : goal.returns-in-Some-Cut
returns-in-Some-Cut c = texts.by_call _ _ _ _ _ c.in-Some-Cut.is c.in-Some-Cut.field-0-is c.call_of.ensures c.answer_cut.ensures

pub returns-in-Some-Back : goal.returns-in-Some-Back
returns-in-Some-Back c = texts.by_call _ _ _ _ _ c.in-Some-Back.is c.in-Some-Back.field-0-is c.call_of.ensures c.answer_back.ensures

pub returns-in-Some-ListPoints : goal.returns-in-Some-ListPoints
returns-in-Some-ListPoints c = texts.by_call _ _ _ _ _ c.in-Some-ListPoints.is c.in-Some-ListPoints.field-0-is c.call_of.ensures c.answer_list.ensures

pub returns-in-Some-Fit : goal.returns-in-Some-Fit
returns-in-Some-Fit c = texts.by_call _ _ _ _ _ c.in-Some-Fit.is c.in-Some-Fit.field-0-is c.call_of.ensures c.answer_fit.ensures

pub returns-in-Some-Contents : goal.returns-in-Some-Contents
returns-in-Some-Contents c = texts.by_call _ _ _ _ _ c.in-Some-Contents.is c.in-Some-Contents.field-0-is c.call_of.ensures (rw c.contents_part.ensures at c.answer_contents.ensures)

pub returns-in-Some-Orient : goal.returns-in-Some-Orient
returns-in-Some-Orient c = texts.by_call _ _ _ _ _ c.in-Some-Orient.is c.in-Some-Orient.field-0-is c.call_of.ensures c.answer_orient.ensures
