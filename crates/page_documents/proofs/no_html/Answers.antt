use Rattle.std.proofs.Common.{subst}
use Rattle.html_grammar.specs.Tags.{open_tag, mismatch, bad_reference, bad_attr, too_deep}
use Rattle.html_reader.specs.Answers.{RefusedSo}
use Rattle.page_documents.proofs.Answered.{utf8_told, html_told}
use Rattle.page_documents.proofs.no_html.Goals as goal

pub returns-in-NotUtf8 : goal.returns-in-NotUtf8
returns-in-NotUtf8 c = utf8_told c.args.error c.in-NotUtf8.at c.in-NotUtf8.is

pub returns-in-OpenTag : goal.returns-in-OpenTag
returns-in-OpenTag c = λ bytes r. html_told open_tag c.in-OpenTag.at bytes (subst (λ e. RefusedSo e bytes) c.in-OpenTag.is r)

pub returns-in-Mismatch : goal.returns-in-Mismatch
returns-in-Mismatch c = λ bytes r. html_told mismatch c.in-Mismatch.at bytes (subst (λ e. RefusedSo e bytes) c.in-Mismatch.is r)

pub returns-in-BadReference : goal.returns-in-BadReference
returns-in-BadReference c = λ bytes r. html_told bad_reference c.in-BadReference.at bytes (subst (λ e. RefusedSo e bytes) c.in-BadReference.is r)

pub returns-in-BadAttr : goal.returns-in-BadAttr
returns-in-BadAttr c = λ bytes r. html_told bad_attr c.in-BadAttr.at bytes (subst (λ e. RefusedSo e bytes) c.in-BadAttr.is r)

pub returns-in-TooDeep : goal.returns-in-TooDeep
returns-in-TooDeep c = λ bytes r. html_told too_deep c.in-TooDeep.at bytes (subst (λ e. RefusedSo e bytes) c.in-TooDeep.is r)
