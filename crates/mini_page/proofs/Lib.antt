pub mod CallLaws
pub mod ChangeLaws
pub mod CountLaws
pub mod ListLaws
pub mod MiniCalls
pub mod TableLaws
