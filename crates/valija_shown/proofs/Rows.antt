-- Sources of Valija and what they are lowered to.
use Rattle.std.proofs.Common.{◌≡◌, [], ◌∷◌, refl}
use Rattle.std.specs.Prelude.{codes}
use Rattle.std.specs.Fmt.{digits}
use Rattle.es3_tokens.specs.Longest.{longest}
use Rattle.es3_tokens.specs.Texts.{body}
use Rattle.es3_tokens.specs.Gaps.{comment_end}
use Rattle.es3_tokens.specs.Cut.{point}
use Rattle.es3_tokens.specs.Quick.{quick_from}
use Rattle.es3_grammar.specs.Spots.{look_up}
use Rattle.es3_grammar.specs.Machine.{settle, resume, step, all_of, run, finished}
use Rattle.es3_grammar.specs.Sums.{run_quickly}
use Rattle.cajita_names.specs.Declarations.{declarations}
use Rattle.valija_forms.specs.Numbered.{one, both, three, four}
use Rattle.valija_parts.specs.Lower.{lowered, written, lowered_function, functions_before}
use Rattle.valija_shown.specs.Shown.{lowered_text, lowered_with, read_text}

pub a_name_that_nothing_declares : lowered_text (codes "x = 1; x + 1;") ≡ read_text (codes "$v.so(\"x\",1);$v.ro(\"x\")+1;")
unfolding longest body comment_end point quick_from look_up settle resume step all_of finished run run_quickly declarations digits lowered written lowered_function functions_before one both three four
a_name_that_nothing_declares = refl

pub members_are_written_and_stepped : lowered_text (codes "var o = {}; o.a = 1; o.a += 2; o[o.a]++; --o.a; o[\"b\"]--; ++o[1];") ≡ read_text (codes "var $v0,$v1,$v2,$v3,$v4,$v5,$v6,$v7,$v8,$v9;var o={};$v.s(o,\"a\",1);$v0=o,$v.s($v0,\"a\",$v.r($v0,\"a\")+2);$v1=o,$v2=\"\"+$v.r(o,\"a\"),$v3=+$v.r($v1,$v2),$v.s($v1,$v2,$v3+1),$v3;$v4=o,$v.s($v4,\"a\",+$v.r($v4,\"a\")-1);$v5=o,$v6=\"\"+\"b\",$v7=+$v.r($v5,$v6),$v.s($v5,$v6,$v7-1),$v7;$v8=o,$v9=\"\"+1,$v.s($v8,$v9,+$v.r($v8,$v9)+1);")
unfolding longest body comment_end point quick_from look_up settle resume step all_of finished run run_quickly declarations digits lowered written lowered_function functions_before one both three four
members_are_written_and_stepped = refl

pub a_constructor_and_its_prototype : lowered_text (codes "function P(x) { this.x = x; } P.prototype.get = function () { return this.x; }; new P(4).get();") ≡ read_text (codes "var P=$v.dis(function($dis,x){$v.s($dis,\"x\",x);});$v.s($v.r(P,\"prototype\"),\"get\",$v.dis(function($dis){return $v.r($dis,\"x\");}));$v.cm($v.n(P,[4]),\"get\",[]);")
unfolding longest body comment_end point quick_from look_up settle resume step all_of finished run run_quickly declarations digits lowered written lowered_function functions_before one both three four
a_constructor_and_its_prototype = refl

pub a_function_with_a_name_of_its_own : lowered_text (codes "var g = function f() { f = 1; return typeof f; }; g();") ≡ read_text (codes "var g=function(){var f=$v.dis(function($dis){f=1;return typeof f;});return f;}();$v.cf(g,[]);")
unfolding longest body comment_end point quick_from look_up settle resume step all_of finished run run_quickly declarations digits lowered written lowered_function functions_before one both three four
a_function_with_a_name_of_its_own = refl

pub keys_are_gone_over : lowered_text (codes "for (var k in o) { say(k); } for (o.p in q) ; for (o[i++] in q) x = k;") ≡ read_text (codes "var $v0,$v1,$v2,$v3,$v4,$v5,$v6,$v7,$v8,$v9,k;for($v0=$v.ro(\"o\"),$v1=$v.ks($v0),$v2=0;$v2<$v1.length;$v2++){if($v.h($v1[$v2],$v0)){k=$v1[$v2];{$v.cf(say,[k]);}}}for($v3=$v.ro(\"q\"),$v4=$v.ks($v3),$v5=0;$v5<$v4.length;$v5++){if($v.h($v4[$v5],$v3)){$v.s($v.ro(\"o\"),\"p\",$v4[$v5]);;}}for($v6=$v.ro(\"q\"),$v7=$v.ks($v6),$v8=0;$v8<$v7.length;$v8++){if($v.h($v7[$v8],$v6)){$v.s($v.ro(\"o\"),($v9=+$v.ro(\"i\"),$v.so(\"i\",$v9+1),$v9),$v7[$v8]);$v.so(\"x\",k);}}")
unfolding longest body comment_end point quick_from look_up settle resume step all_of finished run run_quickly declarations digits lowered written lowered_function functions_before one both three four
keys_are_gone_over = refl

pub a_function_and_its_arguments : lowered_text (codes "function f(a) { arguments[0] = a; for (var z in a) for (y in a) { w += z; } return delete a.b, delete a[c], a in b, a instanceof f, typeof u, typeof a, typeof arguments; }") ≡ read_text (codes "var f=$v.dis(function($dis,a){var $v0,$v1,$v2,$v3,$v4,$v5,z;$v.s(arguments.slice(1),0,a);for($v0=a,$v1=$v.ks($v0),$v2=0;$v2<$v1.length;$v2++){if($v.h($v1[$v2],$v0)){z=$v1[$v2];for($v3=a,$v4=$v.ks($v3),$v5=0;$v5<$v4.length;$v5++){if($v.h($v4[$v5],$v3)){$v.so(\"y\",$v4[$v5]);{$v.so(\"w\",$v.ro(\"w\")+z);}}}}}return $v.d(a,\"b\"),$v.d(a,$v.ro(\"c\")),$v.h(a,$v.ro(\"b\")),$v.io(a,f),$v.to(\"u\"),typeof a,typeof arguments.slice(1);});")
unfolding longest body comment_end point quick_from look_up settle resume step all_of finished run run_quickly declarations digits lowered written lowered_function functions_before one both three four
a_function_and_its_arguments = refl

pub statements_and_jumps : lowered_text (codes "a: while (true) { if (x) continue a; else break a; } do { try { throw this; } catch (e) { e.f(1); e[\"f\"](2, 3); f(4); } finally { x++; --x; y--; } } while (0); switch (x) { case 1: y; default: z; } for (var i = 0; i < 3; i++) ; for (i = 0; ; ) break;") ≡ read_text (codes "var $v0,$v1;a:while(true){if($v.ro(\"x\"))continue a;else break a;}do{try{throw void 0;}catch(e){$v.cm(e,\"f\",[1]);$v.cm(e,\"f\",[2,3]);$v.cf($v.ro(\"f\"),[4]);}finally{$v0=+$v.ro(\"x\"),$v.so(\"x\",$v0+1),$v0;$v.so(\"x\",+$v.ro(\"x\")-1);$v1=+$v.ro(\"y\"),$v.so(\"y\",$v1-1),$v1;}}while(0);switch($v.ro(\"x\")){case 1:$v.ro(\"y\");default:$v.ro(\"z\");}for(var i=0;i<3;i++);for(i=0;;)break;")
unfolding longest body comment_end point quick_from look_up settle resume step all_of finished run run_quickly declarations digits lowered written lowered_function functions_before one both three four
statements_and_jumps = refl

pub choices_and_literals : lowered_text (codes "x = y ? (z, -w) : !v && u || [1, \"t\", null, true]; undefined; cajita.keys({a: x, b: function () { return this; }}); TypeError = 1 ? 2 : 3;") ≡ read_text (codes "$v.so(\"x\",$v.ro(\"y\")?($v.ro(\"z\"),-$v.ro(\"w\")):!$v.ro(\"v\")&&$v.ro(\"u\")||[1,\"t\",null,true]);undefined;$v.cm(cajita,\"keys\",[{\"a\":$v.ro(\"x\"),\"b\":$v.dis(function($dis){return $dis;})}]);TypeError=1?2:3;")
unfolding longest body comment_end point quick_from look_up settle resume step all_of finished run run_quickly declarations digits lowered written lowered_function functions_before one both three four
choices_and_literals = refl

pub a_granted_name_stays : lowered_with (codes "board" ∷ []) (codes "board.set(x); other = board; board;") ≡ read_text (codes "$v.cm(board,\"set\",[$v.ro(\"x\")]);$v.so(\"other\",board);board;")
unfolding longest body comment_end point quick_from look_up settle resume step all_of finished run run_quickly declarations digits lowered written lowered_function functions_before one both three four
a_granted_name_stays = refl

pub an_unknown_name_is_asked_for : lowered_text (codes "board.set(x); other = board; board;") ≡ read_text (codes "$v.cm($v.ro(\"board\"),\"set\",[$v.ro(\"x\")]);$v.so(\"other\",$v.ro(\"board\"));$v.ro(\"board\");")
unfolding longest body comment_end point quick_from look_up settle resume step all_of finished run run_quickly declarations digits lowered written lowered_function functions_before one both three four
an_unknown_name_is_asked_for = refl

pub constructors_take_arguments_or_none : lowered_text (codes "new P; new o.Q(1, 2); new (f())(this);") ≡ read_text (codes "$v.n($v.ro(\"P\"),[]);$v.n($v.r($v.ro(\"o\"),\"Q\"),[1,2]);$v.n($v.cf($v.ro(\"f\"),[]),[void 0]);")
unfolding longest body comment_end point quick_from look_up settle resume step all_of finished run run_quickly declarations digits lowered written lowered_function functions_before one both three four
constructors_take_arguments_or_none = refl

pub functions_have_temporaries_of_their_own : lowered_text (codes "o.b++; function f() { function g() { return h; } g().a += 1; } f();") ≡ read_text (codes "var $v0,$v1;var f=$v.dis(function($dis){var $v0;var g=$v.dis(function($dis){return $v.ro(\"h\");});$v0=$v.cf(g,[]),$v.s($v0,\"a\",$v.r($v0,\"a\")+1);});$v0=$v.ro(\"o\"),$v1=+$v.r($v0,\"b\"),$v.s($v0,\"b\",$v1+1),$v1;$v.cf(f,[]);")
unfolding longest body comment_end point quick_from look_up settle resume step all_of finished run run_quickly declarations digits lowered written lowered_function functions_before one both three four
functions_have_temporaries_of_their_own = refl

pub operators_at_names_and_computed_members : lowered_text (codes "var a; x += 1; a -= x; o[k] *= a; a++; --a;") ≡ read_text (codes "var $v0,$v1;var a;$v.so(\"x\",$v.ro(\"x\")+1);a-=$v.ro(\"x\");$v0=$v.ro(\"o\"),$v1=\"\"+$v.ro(\"k\"),$v.s($v0,$v1,$v.r($v0,$v1)*a);a++;--a;")
unfolding longest body comment_end point quick_from look_up settle resume step all_of finished run run_quickly declarations digits lowered written lowered_function functions_before one both three four
operators_at_names_and_computed_members = refl

pub a_form_is_numbered_before_its_parts : lowered_text (codes "o.a += p.b++;") ≡ read_text (codes "var $v0,$v1,$v2;$v0=$v.ro(\"o\"),$v.s($v0,\"a\",$v.r($v0,\"a\")+($v1=$v.ro(\"p\"),$v2=+$v.r($v1,\"b\"),$v.s($v1,\"b\",$v2+1),$v2));")
unfolding longest body comment_end point quick_from look_up settle resume step all_of finished run run_quickly declarations digits lowered written lowered_function functions_before one both three four
a_form_is_numbered_before_its_parts = refl

pub what_is_caught_is_known_in_its_block : lowered_text (codes "try { f(); } catch (e) { e = x; typeof e; } typeof e;") ≡ read_text (codes "try{$v.cf($v.ro(\"f\"),[]);}catch(e){e=$v.ro(\"x\");typeof e;}$v.to(\"e\");")
unfolding longest body comment_end point quick_from look_up settle resume step all_of finished run run_quickly declarations digits lowered written lowered_function functions_before one both three four
what_is_caught_is_known_in_its_block = refl
