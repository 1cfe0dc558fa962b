pub mod LoadsItself
